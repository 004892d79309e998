-- The octets of a key, and the numbers of octets.
use Rattle.std.proofs.Common.{append_assoc, ◌≡◌, ℕ, zero, suc, ◌+◌, ◌≤◌, List, [], ◌∷◌, ◌++◌, length, take, drop, sym, ap, ◌∙◌, arith, length-drop}
use Rattle.std.specs.Prelude.{slice_index}
use Rattle.std.specs.Int.{w32, w64, from_be_bytes}
use Rattle.std.proofs.lemmas.Nat.{be_bytes_4, be_bytes_8}
use Rattle.std.proofs.lemmas.List.{take-append-drop, take_all, drop-drop, length-take}
use Rattle.byteorder.specs.Endian.{big_bytes, big_number}
use Rattle.byteorder.specs.Numbers.{big_from-take, big_number-reads_back}
use Rattle.ior_refs.specs.Reference.{AreOctets}
use Rattle.ior_refs.specs.Key.{octets_of_key, key_in, AreNumbers}
use Rattle.ior_refs.specs.Laws.{SameOctetsSameKey}
use Rattle.ior_refs.specs.declared.key.ObjectKey.{ObjectKey}

octets_of_take : (n : ℕ) (xs : List ℕ) → AreOctets xs → n ≤ length xs → AreOctets (take n xs)
octets_of_take zero xs h le i = omega arith
octets_of_take (suc n) [] h le i = absurd (omega arith)
octets_of_take (suc n) (x ∷ xs) h le zero = h 0
octets_of_take (suc n) (x ∷ xs) h le (suc i) = octets_of_take n xs (λ k. h (suc k)) (omega arith) i

octets_of_drop : (n : ℕ) (xs : List ℕ) → AreOctets xs → AreOctets (drop n xs)
octets_of_drop zero xs h i = h i
octets_of_drop (suc n) [] h i = omega arith
octets_of_drop (suc n) (x ∷ xs) h i = octets_of_drop n xs (λ k. h (suc k)) i

-- eight octets are those of the number that they spell
eight_back : (xs : List ℕ) → 8 ≤ length xs → AreOctets xs → big_bytes 8 (big_number 8 xs) ≡ take 8 xs
eight_back xs le h =
    let value : big_number 8 (take 8 xs) ≡ from_be_bytes w64 (take 8 xs) = omega arith in
    be_bytes_8 (take 8 xs) (big_number 8 xs) (omega (arith, length-take 8 xs)) (octets_of_take 8 xs h le) (sym (big_from-take 0 8 8 xs (omega arith)) ∙ value)

four_back : (xs : List ℕ) → 4 ≤ length xs → AreOctets xs → big_bytes 4 (big_number 4 xs) ≡ take 4 xs
four_back xs le h =
    let value : big_number 4 (take 4 xs) ≡ from_be_bytes w32 (take 4 xs) = omega arith in
    be_bytes_4 (take 4 xs) (big_number 4 xs) (omega (arith, length-take 4 xs)) (octets_of_take 4 xs h le) (sym (big_from-take 0 4 4 xs (omega arith)) ∙ value)

-- a piece and the octets behind it
then_rest : (a n : ℕ) (xs rest : List ℕ) → rest ≡ drop (a + n) xs → take n (drop a xs) ++ rest ≡ drop a xs
then_rest a n xs rest e = ap (λ (ys : List ℕ). take n (drop a xs) ++ ys) (e ∙ sym (drop-drop n a xs)) ∙ take-append-drop n (drop a xs)

-- twenty-eight octets, cut as the numbers of a key are
cut_in_five : (xs : List ℕ) → length xs ≡ 28 → take 8 xs ++ take 4 (drop 8 xs) ++ take 4 (drop 12 xs) ++ take 8 (drop 16 xs) ++ take 4 (drop 24 xs) ≡ xs
cut_in_five xs len =
    let end : take 4 (drop 24 xs) ≡ drop 24 xs = take_all 4 (drop 24 xs) (omega (arith, length-drop 24 xs)) in
    let fourth : take 8 (drop 16 xs) ++ take 4 (drop 24 xs) ≡ drop 16 xs = then_rest 16 8 xs (take 4 (drop 24 xs)) end in
    let third : take 4 (drop 12 xs) ++ (take 8 (drop 16 xs) ++ take 4 (drop 24 xs)) ≡ drop 12 xs = then_rest 12 4 xs (take 8 (drop 16 xs) ++ take 4 (drop 24 xs)) fourth in
    let second : take 4 (drop 8 xs) ++ (take 4 (drop 12 xs) ++ (take 8 (drop 16 xs) ++ take 4 (drop 24 xs))) ≡ drop 8 xs = then_rest 8 4 xs (take 4 (drop 12 xs) ++ (take 8 (drop 16 xs) ++ take 4 (drop 24 xs))) third in
    let whole : take 8 xs ++ (take 4 (drop 8 xs) ++ (take 4 (drop 12 xs) ++ (take 8 (drop 16 xs) ++ take 4 (drop 24 xs)))) ≡ xs = ap (λ (ys : List ℕ). take 8 xs ++ ys) second ∙ take-append-drop 8 xs in
    simp append_assoc whole

-- the numbers of a key behind its kind
abbrev numbers : ℕ → ℕ → ℕ → ℕ → ℕ → List ℕ
numbers s l t g i = big_bytes 8 s ++ big_bytes 4 l ++ big_bytes 4 t ++ big_bytes 8 g ++ big_bytes 4 i

of_five : (a b c d e p q r s t : List ℕ) → a ≡ p → b ≡ q → c ≡ r → d ≡ s → e ≡ t → a ++ b ++ c ++ d ++ e ≡ p ++ q ++ r ++ s ++ t
of_five a b c d e p q r s t h i j k l = cc

-- the octets of the numbers that octets spell
abbrev octets_of_numbers : List ℕ → List ℕ
octets_of_numbers xs = numbers (big_number 8 xs) (big_number 4 (drop 8 xs)) (big_number 4 (drop 12 xs)) (big_number 8 (drop 16 xs)) (big_number 4 (drop 24 xs))

numbers_back : (xs : List ℕ) → length xs ≡ 28 → AreOctets xs
    → numbers (big_number 8 xs) (big_number 4 (drop 8 xs)) (big_number 4 (drop 12 xs)) (big_number 8 (drop 16 xs)) (big_number 4 (drop 24 xs)) ≡ xs
numbers_back xs len h =
    let a = eight_back xs (omega arith) h in
    let b = four_back (drop 8 xs) (omega (arith, length-drop 8 xs)) (octets_of_drop 8 xs h) in
    let c = four_back (drop 12 xs) (omega (arith, length-drop 12 xs)) (octets_of_drop 12 xs h) in
    let d = eight_back (drop 16 xs) (omega (arith, length-drop 16 xs)) (octets_of_drop 16 xs h) in
    let e = four_back (drop 24 xs) (omega (arith, length-drop 24 xs)) (octets_of_drop 24 xs h) in
    of_five (big_bytes 8 (big_number 8 xs)) (big_bytes 4 (big_number 4 (drop 8 xs))) (big_bytes 4 (big_number 4 (drop 12 xs))) (big_bytes 8 (big_number 8 (drop 16 xs))) (big_bytes 4 (big_number 4 (drop 24 xs)))
    (take 8 xs) (take 4 (drop 8 xs)) (take 4 (drop 12 xs)) (take 8 (drop 16 xs)) (take 4 (drop 24 xs)) a b c d e
    ∙ cut_in_five xs len

of_front : (a b c x : ℕ) (xs ys : List ℕ) → a ≡ 79 → b ≡ 84 → c ≡ 83 → ys ≡ xs → a ∷ b ∷ c ∷ x ∷ xs ≡ 79 ∷ 84 ∷ 83 ∷ x ∷ ys
of_front a b c x xs ys p q r e = cc

-- octets that begin as a key does are those of their key
pub key_is : (octets : List ℕ) → length octets ≡ 32 → AreOctets (drop 4 octets) → slice_index octets 0 ≡ 79 → slice_index octets 1 ≡ 84 → slice_index octets 2 ≡ 83
    → octets ≡ octets_of_key (key_in (slice_index octets 3) (drop 4 octets))
key_is (a ∷ b ∷ c ∷ x ∷ xs) len h p q r = of_front a b c x xs (octets_of_numbers xs) p q r (numbers_back xs (omega arith) h)
key_is [] len h p q r = absurd (omega arith)
key_is (a ∷ []) len h p q r = absurd (omega arith)
key_is (a ∷ b ∷ []) len h p q r = absurd (omega arith)
key_is (a ∷ b ∷ c ∷ []) len h p q r = absurd (omega arith)

of_six : (f : ℕ → ℕ → ℕ → ℕ → ℕ → ℕ → ObjectKey) (x a b c d e y p q r s t : ℕ) → x ≡ y → a ≡ p → b ≡ q → c ≡ r → d ≡ s → e ≡ t → f x a b c d e ≡ f y p q r s t
of_six f x a b c d e y p q r s t g h i j k l = cc

service_back : (k : ObjectKey) → AreNumbers k → big_number 8 (drop 4 (octets_of_key k)) ≡ k.service
service_back k h = big_number-reads_back 8 k.service (big_bytes 4 k.life ++ big_bytes 4 k.slot ++ big_bytes 8 k.generation ++ big_bytes 4 k.index) (omega (arith, h.service))

life_back : (k : ObjectKey) → AreNumbers k → big_number 4 (drop 12 (octets_of_key k)) ≡ k.life
life_back k h = big_number-reads_back 4 k.life (big_bytes 4 k.slot ++ big_bytes 8 k.generation ++ big_bytes 4 k.index) (omega (arith, h.life))

slot_back : (k : ObjectKey) → AreNumbers k → big_number 4 (drop 16 (octets_of_key k)) ≡ k.slot
slot_back k h = big_number-reads_back 4 k.slot (big_bytes 8 k.generation ++ big_bytes 4 k.index) (omega (arith, h.slot))

generation_back : (k : ObjectKey) → AreNumbers k → big_number 8 (drop 20 (octets_of_key k)) ≡ k.generation
generation_back k h = big_number-reads_back 8 k.generation (big_bytes 4 k.index) (omega (arith, h.generation))

index_back : (k : ObjectKey) → AreNumbers k → big_number 4 (drop 28 (octets_of_key k)) ≡ k.index
index_back k h = big_number-reads_back 4 k.index [] (omega (arith, h.index))

-- keys with the same octets are the same
pub same_key : SameOctetsSameKey
same_key a b ha hb e =
    of_six (λ (x : ℕ) (s : ℕ) (l : ℕ) (t : ℕ) (g : ℕ) (i : ℕ). record { kind = x; service = s; life = l; slot = t; generation = g; index = i })
    a.kind a.service a.life a.slot a.generation a.index b.kind b.service b.life b.slot b.generation b.index
    (ap (λ (xs : List ℕ). slice_index xs 3) e)
    (sym (service_back a ha) ∙ ap (λ (xs : List ℕ). big_number 8 (drop 4 xs)) e ∙ service_back b hb)
    (sym (life_back a ha) ∙ ap (λ (xs : List ℕ). big_number 4 (drop 12 xs)) e ∙ life_back b hb)
    (sym (slot_back a ha) ∙ ap (λ (xs : List ℕ). big_number 4 (drop 16 xs)) e ∙ slot_back b hb)
    (sym (generation_back a ha) ∙ ap (λ (xs : List ℕ). big_number 8 (drop 20 xs)) e ∙ generation_back b hb)
    (sym (index_back a ha) ∙ ap (λ (xs : List ℕ). big_number 4 (drop 28 xs)) e ∙ index_back b hb)
