-- Which octets of a disk aren't synced inside an append.
use Rattle.std.proofs.Common.{◌≡◌, ℕ, ◌+◌, ◌-◌, ◌<◌, ◌≤◌, ◌&&◌, ◌||◌, Bool, true, false, nat_le, nat_lt, List, [], ◌∷◌, ◌++◌, length, take, drop, slice_range, sym, ap, ◌∙◌, arith, length-append, length-drop}
use Rattle.std.proofs.lemmas.List.{length-take-le}
use Rattle.std.proofs.lemmas.Bool.Decides.{nat_tests}
use Rattle.nodes_world.specs.Disks.{is_unsynced, filled}
use Rattle.nodes_parts.specs.Filling.{cycled}
use Rattle.nodes_parts.specs.Striking.{HasGone, behind_last, in_first, in_second, reads_before}
use Rattle.nodes_parts.specs.declared.disks.Appended.{Appended}
use Rattle.nodes_parts.proofs.Filled.{filled_in}
use Rattle.nodes_parts.proofs.Seams.{front_of, rest_of, seam}

-- a place is in a range, before a length
abbrev pub is_open : ℕ → ℕ → ℕ → ℕ → Bool
is_open from to known place = ((nat_le from place && nat_lt place to) || false) || nat_le known place

is_outside : (from to known place : ℕ) → (place < from) → place < known → is_open from to known place ≡ false
is_outside from to known place l k = grind (arith, nat_tests)

is_behind : (from to known place : ℕ) → to ≤ place → place < known → is_open from to known place ≡ false
is_behind from to known place l k = grind (arith, nat_tests)

is_inside : (from to known place : ℕ) → from ≤ place → place < to → is_open from to known place ≡ true
is_inside from to known place l k = grind (arith, nat_tests)

-- how long the parts are
pub record Lengths (a : Appended) : Type 0 where
  pub behind : a.gates.last + 1 + length (behind_last a) ≡ a.gates.end + 1
  pub before : a.gates.last + 1 ≤ length (reads_before a)
  pub between : a.gates.end + 1 ≤ length (in_first a).reads
  pub known : (place : ℕ) → a.gates.end + 1 ≤ place → place < length (in_first a).reads → place < length (reads_before a)

pub lengths : (a : Appended) → HasGone a → Lengths a
lengths a h =
    let gates = h.gates in
    let within = h.within in
    let s = seam a h in
    let count = s.count in
    let left : a.gates.end - a.gates.last ≤ length (drop (a.gates.last + 1) a.reads.now) = omega (arith, length-drop (a.gates.last + 1) a.reads.now) in
    let size : a.gates.end + 1 - (a.gates.last + 1) ≡ a.gates.end - a.gates.last = omega arith in
    let written : length (behind_last a) ≡ a.gates.end - a.gates.last =
    ap (λ n. length (take n (drop (a.gates.last + 1) a.reads.now))) size ∙ length-take-le (a.gates.end - a.gates.last) (drop (a.gates.last + 1) a.reads.now) left in
    let same : length (in_first a).reads ≡ length a.reads.now =
    ap length s.first ∙ length-append (front_of a) (0 ∷ rest_of a) ∙ sym (ap length s.second ∙ length-append (front_of a) (1 ∷ rest_of a)) in
    let old : length (reads_before a) ≡ length (front_of a) + (length (drop (length (front_of a) + 1) a.loaded.now) + 1) =
    length-append (front_of a) (0 ∷ drop (length (front_of a) + 1) a.loaded.now) ∙ omega arith in
    let rest = length-append (behind_last a) (drop (length (front_of a) + 1 + length (behind_last a)) (reads_before a)) in
    let dropped = length-drop (length (front_of a) + 1 + length (behind_last a)) (reads_before a) in
    let all : length (in_first a).reads ≡ length (front_of a) + (length (rest_of a) + 1) =
    ap length s.first ∙ length-append (front_of a) (0 ∷ rest_of a) ∙ omega arith in
    record {
      behind = omega arith;
      before = omega arith;
      between = omega arith;
      known = λ place from to. omega arith;
    }

-- what a crash inside the first write leaves, where octets are given
pub first_left : (a : Appended) (octets : List ℕ) → HasGone a
    → filled (is_unsynced (in_first a)) octets [] 0 (in_first a).reads
    ≡ take (a.gates.last + 1) (in_first a).reads ++ cycled octets (slice_range (in_first a).reads (a.gates.last + 1) (a.gates.end + 1)) ++ drop (a.gates.end + 1) (in_first a).reads
first_left a octets h =
    let l = lengths a h in
    let behind = l.behind in
    let before = l.before in
    let between = l.between in
    let gates = h.gates in
    filled_in (is_unsynced (in_first a)) octets (in_first a).reads (a.gates.last + 1) (a.gates.end + 1) (omega arith) between
    (λ i at. is_outside (a.gates.last + 1) (a.gates.last + 1 + length (behind_last a)) (length (reads_before a)) (0 + i) (omega arith) (omega arith))
    (λ i at. is_inside (a.gates.last + 1) (a.gates.last + 1 + length (behind_last a)) (length (reads_before a)) (a.gates.last + 1 + i) (omega arith) (omega arith))
    (λ i at. is_behind (a.gates.last + 1) (a.gates.last + 1 + length (behind_last a)) (length (reads_before a)) (a.gates.end + 1 + i) (omega arith)
    (l.known (a.gates.end + 1 + i) (omega arith) (omega arith)))

-- and inside the second
pub second_left : (a : Appended) (octets : List ℕ) → HasGone a
    → filled (is_unsynced (in_second a)) octets [] 0 (in_second a).reads
    ≡ take a.gates.last (in_second a).reads ++ cycled octets (slice_range (in_second a).reads a.gates.last (a.gates.last + 1)) ++ drop (a.gates.last + 1) (in_second a).reads
second_left a octets h =
    let gates = h.gates in
    let within = h.within in
    let s = seam a h in
    let same : length (in_first a).reads ≡ length a.reads.now =
    ap length s.first ∙ length-append (front_of a) (0 ∷ rest_of a) ∙ sym (ap length s.second ∙ length-append (front_of a) (1 ∷ rest_of a)) in
    let here : length a.reads.now ≡ length (in_second a).reads = ap length h.reads in
    filled_in (is_unsynced (in_second a)) octets (in_second a).reads a.gates.last (a.gates.last + 1) (omega arith) (omega arith)
    (λ i at. is_outside a.gates.last (a.gates.last + 1) (length (in_first a).reads) (0 + i) (omega arith) (omega arith))
    (λ i at. is_inside a.gates.last (a.gates.last + 1) (length (in_first a).reads) (a.gates.last + i) (omega arith) (omega arith))
    (λ i at. is_behind a.gates.last (a.gates.last + 1) (length (in_first a).reads) (a.gates.last + 1 + i) (omega arith) (omega arith))
