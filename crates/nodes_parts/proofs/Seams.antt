-- Octets in front of a place and behind it.
use Rattle.std.proofs.Common.{◌≡◌, ℕ, ◌+◌, suc, List, [], ◌∷◌, ◌++◌, length, take, drop, slice_set, refl, sym, ap, ◌∙◌, arith, append_assoc}
use Rattle.std.proofs.lemmas.List.{length-take-le}
use Rattle.std.proofs.Math.Seq.{take-append_seam}
use Rattle.ots_outside.specs.Disk.{overwritten}
use Rattle.nodes_parts.specs.Striking.{HasGone, behind_last, in_first, reads_before}
use Rattle.nodes_parts.specs.declared.disks.Appended.{Appended}

pub set_seam : (front behind : List ℕ) (x y : ℕ) → slice_set (front ++ x ∷ behind) (length front) y ≡ front ++ y ∷ behind
set_seam [] behind x y = refl
set_seam (z ∷ front) behind x y = ap (λ rest. z ∷ rest) (set_seam front behind x y)

pub drop_past : (front behind : List ℕ) (x : ℕ) → drop (length front + 1) (front ++ x ∷ behind) ≡ behind
drop_past [] behind x = refl
drop_past (z ∷ front) behind x =
    let e : length (z ∷ front) + 1 ≡ suc (length front + 1) = omega arith in
    ap (λ n. drop n (z ∷ (front ++ x ∷ behind))) e ∙ drop_past front behind x

pub take_past : (front behind : List ℕ) (x : ℕ) → take (length front + 1) (front ++ x ∷ behind) ≡ front ++ x ∷ []
take_past [] behind x = refl
take_past (z ∷ front) behind x =
    let e : length (z ∷ front) + 1 ≡ suc (length front + 1) = omega arith in
    ap (λ n. take n (z ∷ (front ++ x ∷ behind))) e ∙ ap (λ rest. z ∷ rest) (take_past front behind x)

-- one octet is written
pub overwritten_one : (front behind : List ℕ) (x y : ℕ) → overwritten (front ++ x ∷ behind) (length front) (y ∷ []) ≡ front ++ y ∷ behind
overwritten_one front behind x y =
    ap (λ head. head ++ y ∷ [] ++ drop (length front + 1) (front ++ x ∷ behind)) (take-append_seam front (x ∷ behind))
    ∙ ap (λ rest. front ++ y ∷ [] ++ rest) (drop_past front behind x)
    ∙ append_assoc front (y ∷ []) behind

-- what comes behind a place once octets are written there
abbrev pub behind_with : List ℕ → List ℕ → ℕ → List ℕ → List ℕ
behind_with front behind x more = more ++ drop (length front + 1 + length more) (front ++ x ∷ behind)

pub overwritten_behind : (front behind more : List ℕ) (x : ℕ)
    → overwritten (front ++ x ∷ behind) (length front + 1) more ≡ front ++ x ∷ behind_with front behind x more
overwritten_behind front behind more x =
    let rest = drop (length front + 1 + length more) (front ++ x ∷ behind) in
    ap (λ head. head ++ more ++ rest) (take_past front behind x)
    ∙ append_assoc (front ++ x ∷ []) more rest ∙ append_assoc front (x ∷ []) (more ++ rest)

-- the octets in front of the gate, and what stands behind it once the record is written
abbrev pub front_of : Appended → List ℕ
front_of a = take a.gates.last a.reads.now

abbrev pub rest_of : Appended → List ℕ
rest_of a = behind_with (front_of a) (drop (length (front_of a) + 1) a.loaded.now) 0 (behind_last a)

pub record HasSeam (a : Appended) : Type 0 where
  pub count : length (front_of a) ≡ a.gates.last
  pub first : (in_first a).reads ≡ front_of a ++ 0 ∷ rest_of a
  pub second : a.reads.now ≡ front_of a ++ 1 ∷ rest_of a

pub seam : (a : Appended) → HasGone a → HasSeam a
seam a h =
    let gates = h.gates in
    let within = h.within in
    let count : length (front_of a) ≡ a.gates.last = length-take-le a.gates.last a.reads.now (omega arith) in
    let first : (in_first a).reads ≡ front_of a ++ 0 ∷ rest_of a =
    ap (λ n. overwritten (reads_before a) (n + 1) (behind_last a)) (sym count)
    ∙ overwritten_behind (front_of a) (drop (length (front_of a) + 1) a.loaded.now) (behind_last a) 0 in
    let second : a.reads.now ≡ front_of a ++ 1 ∷ rest_of a =
    h.reads ∙ ap (λ xs. overwritten xs a.gates.last (1 ∷ [])) first ∙ ap (λ n. overwritten (front_of a ++ 0 ∷ rest_of a) n (1 ∷ [])) (sym count)
    ∙ overwritten_one (front_of a) (rest_of a) 0 1 in
    record { count = count; first = first; second = second }

-- the gate is closed again
pub closed_again : (a : Appended) (octets : List ℕ) → HasGone a → octets ≡ a.reads.now → slice_set octets a.gates.last 0 ≡ (in_first a).reads
closed_again a octets h e =
    let s = seam a h in
    ap (λ xs. slice_set xs a.gates.last 0) (e ∙ s.second)
    ∙ ap (λ n. slice_set (front_of a ++ 1 ∷ rest_of a) n 0) (sym s.count)
    ∙ set_seam (front_of a) (rest_of a) 1 0 ∙ sym s.first
