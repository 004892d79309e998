-- What an image of a disk is, where few places were written.
use Rattle.std.proofs.Common.{◌≡◌, ◌≢◌, inl, inr, ℕ, suc, ◌<◌, ◌≤◌, List, [], ◌∷◌, ◌++◌, length, get_or, drop, refl, ap, ◌∙◌, arith, length-append}
use Rattle.std.proofs.lemmas.List.{append-nil, drop_all, get_or_append_left}
use Rattle.ots_outside.specs.Disk.{IsImage, IsWritten}

-- octets that agree with a list on all its places begin with it
pub begins_with : (a c : List ℕ) → length a ≤ length c → ((i : ℕ) → i < length a → get_or c i 0 ≡ get_or a i 0) → c ≡ a ++ drop (length a) c
begins_with [] c le same = refl
begins_with (x ∷ a) [] le same = absurd (omega arith)
begins_with (x ∷ a) (y ∷ c) le same =
    let rest = begins_with a c (omega arith) (λ i lt. same (suc i) (omega arith)) in
    ap (λ (h : ℕ). h ∷ c) (same 0 (omega arith)) ∙ ap (λ (t : List ℕ). x ∷ t) rest

pub same_octets : (a c : List ℕ) → length a ≡ length c → ((i : ℕ) → i < length a → get_or c i 0 ≡ get_or a i 0) → c ≡ a
same_octets a c len same = begins_with a c (omega arith) same ∙ ap (λ (t : List ℕ). a ++ t) (drop_all (length a) c (omega arith)) ∙ append-nil a

-- octets that agree with others on all places but one
pub one_changed : (a b c : List ℕ) (y : ℕ) → length c ≡ length (a ++ y ∷ b) → ((i : ℕ) → i < length (a ++ y ∷ b) → i ≢ length a → get_or c i 0 ≡ get_or (a ++ y ∷ b) i 0) → c ≡ a ++ get_or c (length a) 0 ∷ b
one_changed [] b [] y len same = absurd (omega arith)
one_changed [] b (z ∷ c) y len same = ap (λ (t : List ℕ). z ∷ t) (same_octets b c (omega arith) (λ i lt. same (suc i) (omega arith) (omega arith)))
one_changed (x ∷ a) b [] y len same = absurd (omega arith)
one_changed (x ∷ a) b (z ∷ c) y len same =
    let rest = one_changed a b c y (omega arith) (λ i lt ne. same (suc i) (omega arith) (omega arith)) in
    ap (λ (h : ℕ). h ∷ c) (same 0 (omega arith) (omega arith)) ∙ ap (λ (t : List ℕ). x ∷ t) rest

-- where nothing was written, a crash leaves what was synced
pub image_settled : (s c : List ℕ) → IsImage (record { synced = s; writes = [] }) c → c ≡ s
image_settled s c image = same_octets s c (omega (arith, image.no_shorter, image.no_longer)) (λ i lt. image.kept i lt (λ w. w))

-- where one write begins behind a front, a crash leaves the front
pub image_behind : (a b octets c : List ℕ) (place : ℕ) → length a ≤ place → IsImage (record { synced = a ++ b; writes = record { place = place; octets = octets } ∷ [] }) c → c ≡ a ++ drop (length a) c
image_behind a b octets c place le image =
    begins_with a c (omega (arith, image.no_shorter, length-append a b)) (λ i lt.
    image.kept i (omega (arith, length-append a b)) (before i lt) ∙ get_or_append_left a b 0 i lt)
  where
    before : (i : ℕ) → i < length a → IsWritten (record { place = place; octets = octets } ∷ []) i → ⊥
    before i lt (inl in_range) = absurd (omega (arith, in_range.0))
    before i lt (inr none) = none

-- where one octet was written, a crash leaves the others
pub image_one : (a b c : List ℕ) (y z : ℕ) → IsImage (record { synced = a ++ y ∷ b; writes = record { place = length a; octets = z ∷ [] } ∷ [] }) c → c ≡ a ++ get_or c (length a) 0 ∷ b
image_one a b c y z image =
    one_changed a b c y (omega (arith, image.no_shorter, image.no_longer, length-append a (y ∷ b))) (λ i lt ne. image.kept i lt (elsewhere i ne))
  where
    elsewhere : (i : ℕ) → i ≢ length a → IsWritten (record { place = length a; octets = z ∷ [] } ∷ []) i → ⊥
    elsewhere i ne (inl in_range) = absurd (ne (omega (arith, in_range.0, in_range.1)))
    elsewhere i ne (inr none) = none
