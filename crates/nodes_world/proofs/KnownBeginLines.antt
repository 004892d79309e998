-- Who takes part in a family is as before, once a line tells of another top-level transaction.
use Rattle.std.proofs.Common.{◌≡◌, ◌⊎◌, inl, inr, ℕ, Bool, true, false, List, refl}
use Rattle.ots_model.specs.Safe as safe
use Rattle.ots_model.specs.Safe.{Stands, IsFamily, IsJoined, IsRegistered, TakesPart}
use Rattle.ots_model.specs.declared.line.Line.{Line}
use Rattle.ots_model.specs.declared.line.Line.TheVariants as lines

-- it tells of a top-level transaction
abbrev pub is_top_line : Line → Bool
is_top_line (lines.Top t node) = true
is_top_line _ = false

-- what these lines say is said in others, but of the top-level transaction of this name
module _ (b a : List Line) (name : List ℕ) (back : (line : Line) → is_top_line line ≡ false → Stands line b → Stands line a)
    (tops : (t node : List ℕ) → Stands (lines.Top t node) b → Stands (lines.Top t node) a ⊎ (t ≡ name)) where
  registered_before : (g t : List ℕ) → IsRegistered g t b → IsRegistered g t a
  registered_before g t (end, s) = (end, back _ refl s)

  family_before : (t : List ℕ) → IsFamily t b → (t ≡ name) ⊎ IsFamily t a
  family_before t (inl (node, s)) = elim (tops t node s) [
    | inl was ↦ inr (inl (node, was))
    | inr new ↦ inl new
  ]
  family_before t (inr (above, (node, s))) = inr (inr (above, (node, back _ refl s)))

  joined_before : (f t : List ℕ) → IsJoined b f t → (f ≡ name) ⊎ IsJoined a f t
  joined_before f _ (safe.IsJoined.own family) = elim (family_before f family) [
    | inl new ↦ inl new
    | inr was ↦ inr (safe.IsJoined.own was)
  ]
  joined_before f _ (safe.IsJoined.committed t parent done sub above) = elim (joined_before f parent above) [
    | inl new ↦ inl new
    | inr was ↦ inr (safe.IsJoined.committed t parent (back _ refl done) (back _ refl sub) was)
  ]

  -- in a family of another name
  pub part_before : (g f : List ℕ) → (f ≡ name → ⊥) → TakesPart g f b → TakesPart g f a
  part_before g f other (t, registered, joined) = elim (joined_before f t joined) [
    | inl new ↦ absurd (other new)
    | inr was ↦ (t, registered_before g t registered, was)
  ]
