mod CountLemmas
mod FaultLemmas
mod PrintLemmas
