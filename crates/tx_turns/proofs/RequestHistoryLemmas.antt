-- What the actor of a seat was asked, and how many transactions to begin.
--
-- A turn takes in what was asked since the one before, so it leaves the requests as they were; what is asked joins them at their end.
use Rattle.std.proofs.Common.{◌≡◌, ◌+◌, List, [], ◌∷◌, ◌++◌, refl, sym, ap, ◌∙◌, arith}
use Rattle.std.proofs.lemmas.List.{append-nil, append_assoc}
use Rattle.seq_model.specs.declared.event.Event.{Event}
use Rattle.seq_model.specs.declared.event.Event.TheVariants.{Ask}
use Rattle.seq_model.specs.declared.event.Request.{Request}
use Rattle.seq_model.specs.declared.event.Request.TheVariants.{Begin, BeginRead}
use Rattle.shared_table.specs.declared.seat.Seat.{Seat}
use Rattle.shared_table.specs.Seated.{list_of, view}
use Rattle.shared_table.specs.declared.view.Turn.{Turn}
use Rattle.tx_turns.specs.RequestStep.{HasTaken}
use Rattle.tx_turns.specs.Begins.{begins_asked, begins_in, begins_of, begins_taken}
use Rattle.tx_turns.specs.RequestHistory.{requests_asked, requests_of, requests_taken}

module _ {V : Type 0} where
  asked_then : (es more : List (Event V)) → requests_asked (es ++ more) ≡ requests_asked es ++ requests_asked more
  asked_then [] more = refl
  asked_then (Ask a q ∷ es) more = ap (λ (qs : List (Request V)). q ∷ qs) (asked_then es more)
  asked_then (e ∷ es) more = asked_then es more

  taken_then : (turns : List (Turn V)) (turn : Turn V)
      → requests_taken (turns ++ turn ∷ []) ≡ requests_taken turns ++ requests_asked turn.asks
  taken_then [] turn = append-nil (requests_asked turn.asks)
  taken_then (first ∷ turns) turn =
      ap (λ (qs : List (Request V)). requests_asked first.asks ++ qs) (taken_then turns turn)
      ∙ sym (append_assoc (requests_asked first.asks) (requests_taken turns) (requests_asked turn.asks))

  -- the same turns, and the same asked since
  pub same_requests : (s u : Seat V) → (view u).turns ≡ (view s).turns → list_of u.asked ≡ list_of s.asked → requests_of u ≡ requests_of s
  unfolding requests_of
  same_requests s u turns asked i = requests_taken (turns i) ++ requests_asked (asked i)

  -- no turns, and nothing asked
  pub none_requested : (s : Seat V) → (view s).turns ≡ [] → list_of s.asked ≡ [] → requests_of s ≡ []
  unfolding requests_of
  none_requested s turns asked i = requests_taken (turns i) ++ requests_asked (asked i)

  -- one turn more
  pub turn_requests : (u z : Seat V) (turn : Turn V) → (view z).turns ≡ (view u).turns ++ turn ∷ [] → turn.asks ≡ list_of u.asked
      → list_of z.asked ≡ [] → requests_of z ≡ requests_of u
  unfolding requests_of
  turn_requests u z turn turns asks none =
      (λ i. requests_taken (turns i) ++ requests_asked (none i))
      ∙ (append-nil (requests_taken ((view u).turns ++ turn ∷ []))
      ∙ (taken_then (view u).turns turn ∙ ap (λ (es : List (Event V)). requests_taken (view u).turns ++ requests_asked es) asks))

  -- one event more
  pub taken_requests : (s u : Seat V) (e : Event V) → HasTaken s e u → requests_of u ≡ requests_of s ++ requests_asked (e ∷ [])
  unfolding requests_of
  taken_requests s u e has =
      (λ i. requests_taken (has.1 i).0.turns ++ requests_asked (has.2 i))
      ∙ (ap (λ (qs : List (Request V)). requests_taken (view s).turns ++ qs) (asked_then (list_of s.asked) (e ∷ []))
      ∙ sym (append_assoc (requests_taken (view s).turns) (requests_asked (list_of s.asked)) (requests_asked (e ∷ []))))

  -- ---- the begins among them
  begins_then : (qs more : List (Request V)) → begins_in (qs ++ more) ≡ begins_in qs + begins_in more
  begins_then [] more = omega arith
  begins_then (Begin ∷ qs) more =
      let rest : begins_in (qs ++ more) ≡ begins_in qs + begins_in more = begins_then qs more in omega (arith, rest)
  begins_then (BeginRead ∷ qs) more =
      let rest : begins_in (qs ++ more) ≡ begins_in qs + begins_in more = begins_then qs more in omega (arith, rest)
  begins_then (q ∷ qs) more = begins_then qs more

  pub first_begins : (turn : Turn V) (turns : List (Turn V)) → begins_taken (turn ∷ turns) ≡ begins_asked turn.asks + begins_taken turns
  first_begins turn turns = begins_then (requests_asked turn.asks) (requests_taken turns)

  pub same_begins : (s u : Seat V) → requests_of u ≡ requests_of s → begins_of u ≡ begins_of s
  same_begins s u asks = ap (λ (qs : List (Request V)). begins_in qs) asks

  pub more_begins : (s u : Seat V) (qs : List (Request V)) → requests_of u ≡ requests_of s ++ qs → begins_of u ≡ begins_of s + begins_in qs
  more_begins s u qs asks = ap (λ (ps : List (Request V)). begins_in ps) asks ∙ begins_then (requests_of s) qs
