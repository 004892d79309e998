-- What a crash inside a write leaves is an image of that moment.
use Rattle.std.proofs.Common.{◌≡◌, inl, inr, ℕ, zero, suc, ◌+◌, ◌<◌, ◌≤◌, Bool, true, false, ◌&&◌, ◌||◌, nat_le, nat_lt, List, [], ◌∷◌, length, get_or, refl, ap, ◌∙◌, arith, true≢false}
use Rattle.std.proofs.lemmas.Bool.Decides.{nat_tests}
use Rattle.ots_outside.specs.Disk.{DiskState, Write, IsImage, IsWritten, length_after}
use Rattle.ots_world.specs.declared.script.Image.TheVariants as images
use Rattle.nodes_world.specs.Disks.{is_written, is_unsynced, left_over, with_first, dealt, filled, left_by}
use Rattle.nodes_world.specs.Laws.{WhatIsLeftIsAnImage}

-- ---- octets that are dealt out take the place of octets one by one

first_length : (given : List ℕ) (next : List ℕ → List ℕ) (octet n : ℕ) → ((rest : List ℕ) → length (next rest) ≡ n)
    → length (with_first given next octet) ≡ suc n
first_length [] next octet n h = let e = h [] in omega (arith, e)
first_length (first ∷ others) next octet n h = let e = h others in omega (arith, e)

dealt_length : (b : Bool) (next : List ℕ → List ℕ) (all left : List ℕ) (octet n : ℕ) → ((rest : List ℕ) → length (next rest) ≡ n)
    → length (dealt b next all left octet) ≡ suc n
dealt_length true next all left octet n h = first_length (left_over all left) next octet n h
dealt_length false next all left octet n h = let e = h left in omega (arith, e)

filled_length : (unsynced : ℕ → Bool) (all left : List ℕ) (place : ℕ) (octets : List ℕ)
    → length (filled unsynced all left place octets) ≡ length octets
unfolding filled
filled_length unsynced all left place [] = refl
filled_length unsynced all left place (octet ∷ others) =
    dealt_length (unsynced place) (λ (rest : List ℕ). filled unsynced all rest (place + 1) others) all left octet (length others)
    (λ rest. filled_length unsynced all rest (place + 1) others)

-- ---- what is synced stays

kept_first : (b : Bool) (next : List ℕ → List ℕ) (all left : List ℕ) (octet : ℕ) → b ≡ false → get_or (dealt b next all left octet) 0 0 ≡ octet
kept_first true next all left octet synced = absurd (true≢false synced)
kept_first false next all left octet synced = refl

first_later : (given : List ℕ) (next : List ℕ → List ℕ) (octet i x : ℕ) → ((rest : List ℕ) → get_or (next rest) i 0 ≡ x)
    → get_or (with_first given next octet) (suc i) 0 ≡ x
first_later [] next octet i x h = h []
first_later (first ∷ others) next octet i x h = h others

dealt_later : (b : Bool) (next : List ℕ → List ℕ) (all left : List ℕ) (octet i x : ℕ) → ((rest : List ℕ) → get_or (next rest) i 0 ≡ x)
    → get_or (dealt b next all left octet) (suc i) 0 ≡ x
dealt_later true next all left octet i x h = first_later (left_over all left) next octet i x h
dealt_later false next all left octet i x h = h left

filled_kept : (unsynced : ℕ → Bool) (all left : List ℕ) (place : ℕ) (octets : List ℕ) (i : ℕ) → unsynced (place + i) ≡ false
    → get_or (filled unsynced all left place octets) i 0 ≡ get_or octets i 0
unfolding filled
filled_kept unsynced all left place [] i synced = refl
filled_kept unsynced all left place (octet ∷ others) zero synced =
    let same : place ≡ place + 0 = omega arith in
    kept_first (unsynced place) (λ (rest : List ℕ). filled unsynced all rest (place + 1) others) all left octet (ap unsynced same ∙ synced)
filled_kept unsynced all left place (octet ∷ others) (suc i) synced =
    let same : (place + 1) + i ≡ place + suc i = omega arith in
    dealt_later (unsynced place) (λ (rest : List ℕ). filled unsynced all rest (place + 1) others) all left octet i (get_or others i 0)
    (λ rest. filled_kept unsynced all rest (place + 1) others i (ap unsynced same ∙ synced))

-- ---- which places are synced

not_inside : (a b c : Bool) → (a ≡ true → b ≡ true → ⊥) → c ≡ false → (a && b) || c ≡ false
not_inside true true c h is = absurd (h refl refl)
not_inside true false c h is = is
not_inside false b c h is = is

is_unwritten : (writes : List Write) (i : ℕ) → (IsWritten writes i → ⊥) → is_written writes i ≡ false
is_unwritten [] i none = refl
is_unwritten (w ∷ others) i none =
    not_inside (nat_le w.place i) (nat_lt i (w.place + length w.octets)) (is_written others i)
    (λ from to. none (inl (at_least w.place i from, below i (w.place + length w.octets) to)))
    (is_unwritten others i (λ later. none (inr later)))
  where
    at_least : (a b : ℕ) → nat_le a b ≡ true → a ≤ b
    at_least a b is = grind (arith, nat_tests)

    below : (a b : ℕ) → nat_lt a b ≡ true → a < b
    below a b is = grind (arith, nat_tests)

stays : (disk : DiskState) (i : ℕ) → i < length disk.present.synced → (IsWritten disk.present.writes i → ⊥) → is_unsynced disk i ≡ false
stays disk i within none =
    ap (λ b. b || nat_le (length disk.present.synced) i) (is_unwritten disk.present.writes i none) ∙ not_past (length disk.present.synced) i within
  where
    not_past : (n i : ℕ) → i < n → nat_le n i ≡ false
    not_past n i less = grind (arith, nat_tests)

-- ---- each image that may be asked for

grows : (writes : List Write) (n : ℕ) → n ≤ length_after writes n
grows [] n = omega arith
grows (w ∷ others) n = let e = grows others n in omega (arith, e)

old_is_image : (disk : DiskState) → IsImage disk.present disk.present.synced
old_is_image disk = record {
  no_shorter = omega arith;
  no_longer = grows disk.present.writes (length disk.present.synced);
  kept = λ i within none. refl;
}

octets_are_image : (octets : List ℕ) (disk : DiskState) → IsImage disk.present disk.reads
    → IsImage disk.present (filled (is_unsynced disk) octets [] 0 disk.reads)
octets_are_image octets disk reads =
    let same = filled_length (is_unsynced disk) octets [] 0 disk.reads in record {
      no_shorter = omega (arith, same, reads.no_shorter);
      no_longer = omega (arith, same, reads.no_longer);
      kept = λ i within none. filled_kept (is_unsynced disk) octets [] 0 disk.reads i
          (let at : 0 + i ≡ i = omega arith in ap (is_unsynced disk) at ∙ stays disk i within none) ∙ reads.kept i within none;
    }

pub what_is_left_is_an_image : WhatIsLeftIsAnImage
unfolding left_by
what_is_left_is_an_image images.Old disk reads = old_is_image disk
what_is_left_is_an_image images.New disk reads = reads
what_is_left_is_an_image (images.Octets octets) disk reads = octets_are_image octets disk reads
