-- What a job noted of the replies to its calls.
use Rattle.std.specs.Prelude.{◌≡◌, ◌≤◌, ◌⊎◌, List, length, take}
use Rattle.seq_model.specs.declared.call.Reply.{Reply}
use Rattle.seq_model.specs.declared.place.JobPlace.{JobPlace}

-- the job has noted nothing, or its marks are those of the first of these replies
abbrev pub IsPlaceIn : {V : Type 0} → (List (Reply V) → JobPlace → Type 0) → List (Reply V) → JobPlace → Type 0
IsPlaceIn stands replies place = (place.heard ≤ length replies) × ((place.heard ≡ 0) ⊎ stands (take place.heard replies) place)
