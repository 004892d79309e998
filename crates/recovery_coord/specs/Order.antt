-- What a list of held records keeps beside its contract: they stand in the order of their places, and none twice, so that one
-- is found by halving.
use Rattle.std.specs.Prelude.{◌≡◌, ℕ, ◌+◌, ◌<◌, ◌≤◌, List, [], ◌∷◌, length, slice_index_or}
use Rattle.recovery_coord.specs.declared.held.Held.{Held}

-- the places rise from this one on
abbrev pub RiseFrom : ℕ → List Held → Type 0
RiseFrom place [] = Unit {0}
RiseFrom place (r ∷ rs) = (place ≤ r.place) × RiseFrom (r.place + 1) rs

-- the record at this index is that at the place
pub record IsAt (place i : ℕ) (rs : List Held) : Type 0 where
  pub within : i < length rs
  pub same : (d : Held) → (slice_index_or rs i d).place ≡ place

-- no record is at the place: this index is behind those before it
pub record IsGap (place i : ℕ) (rs : List Held) : Type 0 where
  pub within : i ≤ length rs
  pub below : (k : ℕ) (d : Held) → k < i → (slice_index_or rs k d).place < place
  pub above : (k : ℕ) (d : Held) → i ≤ k → k < length rs → place < (slice_index_or rs k d).place
