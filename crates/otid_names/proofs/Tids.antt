-- The octets of four numbers, and the numbers of octets.
use Rattle.std.proofs.Common.{append_assoc, ◌≡◌, ℕ, zero, suc, ◌<◌, ◌≤◌, eqb, List, [], ◌∷◌, ◌++◌, length, take, drop, refl, sym, ap, ◌∙◌, arith, pos, length-drop}
use Rattle.std.specs.Prelude.{slice_index, ◌&&◌, ℤ}
use Rattle.std.specs.Int.{w32, w64, from_be_bytes}
use Rattle.std.specs.Ordering.{int_eq}
use Rattle.std.proofs.lemmas.Nat.{be_bytes_4, be_bytes_8}
use Rattle.std.proofs.lemmas.List.{take-append-drop, take_all, drop-drop, length-take}
use Rattle.std.proofs.lemmas.Bool.{and_parts, eqb-true}
use Rattle.std.proofs.lemmas.Bool.Decides.{Decides-int_eq}
use Rattle.byteorder.specs.Endian.{big_bytes, big_number}
use Rattle.byteorder.specs.Numbers.{big_from-take, big_number-reads_back}
use Rattle.otid_names.specs.Otid.{OtidParts, IsOtid, global}
use Rattle.otid_names.specs.Own.{IsOwn, own, tid_of, numbers_in}
use Rattle.otid_names.specs.Laws.{AreNumbers, NumbersReadBack, SameNumbersSameOtid, GlobalTellsTransaction}
use Rattle.otid_names.specs.declared.otid.OwnNumbers.{OwnNumbers}

-- equal parts make equal wholes
of_four : {X : Type 0} (f : ℕ → ℕ → ℕ → ℕ → X) (a b c d e g h i : ℕ) → a ≡ e → b ≡ g → c ≡ h → d ≡ i → f a b c d ≡ f e g h i
of_four f a b c d e g h i p q r s = cc

pub same_numbers_of : (m n : OwnNumbers) → m.service ≡ n.service → m.life ≡ n.life → m.generation ≡ n.generation → m.branch ≡ n.branch → m ≡ n
same_numbers_of m n s l g b =
    of_four {X = OwnNumbers} (λ (s : ℕ) (l : ℕ) (g : ℕ) (b : ℕ). record { service = s; life = l; generation = g; branch = b })
    m.service m.life m.generation m.branch n.service n.life n.generation n.branch s l g b

of_three : {X : Type 0} (f : ℤ → ℕ → List ℕ → X) (a d : ℤ) (b e : ℕ) (c g : List ℕ) → a ≡ d → b ≡ e → c ≡ g → f a b c ≡ f d e g
of_three f a d b e c g p q r = cc

same_parts : (a b : OtidParts) → a.format ≡ b.format → a.bqual ≡ b.bqual → a.tid ≡ b.tid → a ≡ b
same_parts a b f q t =
    of_three {X = OtidParts} (λ (f : ℤ) (q : ℕ) (t : List ℕ). record { format = f; bqual = q; tid = t })
    a.format b.format a.bqual b.bqual a.tid b.tid f q t

service_back : (n : OwnNumbers) → AreNumbers n → (numbers_in (tid_of n)).service ≡ n.service
service_back n h = big_number-reads_back 8 n.service (big_bytes 4 n.life ++ big_bytes 8 n.generation ++ big_bytes 4 n.branch) (omega (arith, h.service))

life_back : (n : OwnNumbers) → AreNumbers n → (numbers_in (tid_of n)).life ≡ n.life
life_back n h = big_number-reads_back 4 n.life (big_bytes 8 n.generation ++ big_bytes 4 n.branch) (omega (arith, h.life))

generation_back : (n : OwnNumbers) → AreNumbers n → (numbers_in (tid_of n)).generation ≡ n.generation
generation_back n h = big_number-reads_back 8 n.generation (big_bytes 4 n.branch) (omega (arith, h.generation))

branch_back : (n : OwnNumbers) → AreNumbers n → (numbers_in (tid_of n)).branch ≡ n.branch
branch_back n h = big_number-reads_back 4 n.branch [] (omega (arith, h.branch))

numbers_back : (n : OwnNumbers) → AreNumbers n → numbers_in (tid_of n) ≡ n
numbers_back n h = same_numbers_of (numbers_in (tid_of n)) n (service_back n h) (life_back n h) (generation_back n h) (branch_back n h)

pub numbers_read_back : NumbersReadBack
numbers_read_back n h = (refl, numbers_back n h)

octets_of_take : (n : ℕ) (xs : List ℕ) → n ≤ length xs → ((i : ℕ) → slice_index xs i < 256) → (i : ℕ) → slice_index (take n xs) i < 256
octets_of_take zero xs le h i = omega arith
octets_of_take (suc n) [] le h i = absurd (omega arith)
octets_of_take (suc n) (x ∷ xs) le h zero = h 0
octets_of_take (suc n) (x ∷ xs) le h (suc i) = octets_of_take n xs (omega arith) (λ k. h (suc k)) i

pub octets_of_drop : (n : ℕ) (xs : List ℕ) → ((i : ℕ) → slice_index xs i < 256) → (i : ℕ) → slice_index (drop n xs) i < 256
octets_of_drop zero xs h i = h i
octets_of_drop (suc n) [] h i = omega arith
octets_of_drop (suc n) (x ∷ xs) h i = octets_of_drop n xs (λ k. h (suc k)) i

-- eight octets are those of the number that they spell
eight_back : (xs : List ℕ) → 8 ≤ length xs → ((i : ℕ) → slice_index xs i < 256) → big_bytes 8 (big_number 8 xs) ≡ take 8 xs
eight_back xs le h =
    let value : big_number 8 (take 8 xs) ≡ from_be_bytes w64 (take 8 xs) = omega arith in
    be_bytes_8 (take 8 xs) (big_number 8 xs) (omega (arith, length-take 8 xs)) (octets_of_take 8 xs le h) (sym (big_from-take 0 8 8 xs (omega arith)) ∙ value)

four_back : (xs : List ℕ) → 4 ≤ length xs → ((i : ℕ) → slice_index xs i < 256) → big_bytes 4 (big_number 4 xs) ≡ take 4 xs
four_back xs le h =
    let value : big_number 4 (take 4 xs) ≡ from_be_bytes w32 (take 4 xs) = omega arith in
    be_bytes_4 (take 4 xs) (big_number 4 xs) (omega (arith, length-take 4 xs)) (octets_of_take 4 xs le h) (sym (big_from-take 0 4 4 xs (omega arith)) ∙ value)

-- twenty-four octets, cut as our own tids are
cut_in_four : (xs : List ℕ) → length xs ≡ 24 → take 8 xs ++ take 4 (drop 8 xs) ++ take 8 (drop 12 xs) ++ take 4 (drop 20 xs) ≡ xs
cut_in_four xs len =
    let end : take 4 (drop 20 xs) ≡ drop 20 xs = take_all 4 (drop 20 xs) (omega (arith, length-drop 20 xs)) in
    let third : take 8 (drop 12 xs) ++ drop 20 xs ≡ drop 12 xs = ap (λ (ys : List ℕ). take 8 (drop 12 xs) ++ ys) (sym (drop-drop 8 12 xs)) ∙ take-append-drop 8 (drop 12 xs) in
    let second : take 4 (drop 8 xs) ++ drop 12 xs ≡ drop 8 xs = ap (λ (ys : List ℕ). take 4 (drop 8 xs) ++ ys) (sym (drop-drop 4 8 xs)) ∙ take-append-drop 4 (drop 8 xs) in
    simp append_assoc (rw (end, third, second) (take-append-drop 8 xs))

of_appended : (a b c d e g h i : List ℕ) → a ≡ e → b ≡ g → c ≡ h → d ≡ i → a ++ b ++ c ++ d ≡ e ++ g ++ h ++ i
of_appended a b c d e g h i p q r s = cc

-- such a tid is that of its numbers
pub tid_back : (xs : List ℕ) → length xs ≡ 24 → ((i : ℕ) → slice_index xs i < 256) → tid_of (numbers_in xs) ≡ xs
tid_back xs len h =
    let service = eight_back xs (omega arith) h in
    let life = four_back (drop 8 xs) (omega (arith, length-drop 8 xs)) (octets_of_drop 8 xs h) in
    let generation = eight_back (drop 12 xs) (omega (arith, length-drop 12 xs)) (octets_of_drop 12 xs h) in
    let branch = four_back (drop 20 xs) (omega (arith, length-drop 20 xs)) (octets_of_drop 20 xs h) in
    of_appended (big_bytes 8 (big_number 8 xs)) (big_bytes 4 (big_number 4 (drop 8 xs))) (big_bytes 8 (big_number 8 (drop 12 xs))) (big_bytes 4 (big_number 4 (drop 20 xs)))
    (take 8 xs) (take 4 (drop 8 xs)) (take 8 (drop 12 xs)) (take 4 (drop 20 xs)) service life generation branch
    ∙ cut_in_four xs len

-- what our own otids have
pub own_fields : (o : OtidParts) → IsOwn o → (o.format ≡ pos 1330926385) × (length o.tid ≡ 24) × (o.bqual ≡ 4)
own_fields o mine =
    let outer = and_parts (int_eq o.format (pos 1330926385) && eqb (length o.tid) 24) (eqb o.bqual 4) mine in
    let inner = and_parts (int_eq o.format (pos 1330926385)) (eqb (length o.tid) 24) outer.0 in (
      (Decides-int_eq o.format (pos 1330926385)).0 inner.0,
      eqb-true (length o.tid) 24 inner.1,
      eqb-true o.bqual 4 outer.1,
    )

-- an otid of our own is that of its numbers
pub own_is_of_numbers : (o : OtidParts) → IsOtid o → IsOwn o → own (numbers_in o.tid) ≡ o
own_is_of_numbers o is mine =
    let f = own_fields o mine in
    same_parts (own (numbers_in o.tid)) o (sym f.0) (sym f.2) (tid_back o.tid f.1 is.octets)

pub same_numbers : SameNumbersSameOtid
same_numbers a b ia ib oa ob e =
    sym (own_is_of_numbers a ia oa) ∙ ap own e ∙ own_is_of_numbers b ib ob

-- the global part of our own otids
global_of_own : (n : OwnNumbers) → global (own n) ≡ big_bytes 8 n.service ++ big_bytes 4 n.life ++ big_bytes 8 n.generation
global_of_own n = refl

global_read : (m n : OwnNumbers) → AreNumbers m → AreNumbers n → global (own m) ≡ global (own n) → (m.service ≡ n.service) × (m.life ≡ n.life) × (m.generation ≡ n.generation)
global_read m n hm hn e = (
  sym (service_back m hm) ∙ ap (big_number 8) e ∙ service_back n hn,
  sym (life_back m hm) ∙ ap (λ (xs : List ℕ). big_number 4 (drop 8 xs)) e ∙ life_back n hn,
  sym (generation_back m hm) ∙ ap (λ (xs : List ℕ). big_number 8 (drop 12 xs)) e ∙ generation_back n hn,
)

of_three_numbers : {X : Type 0} (f : ℕ → ℕ → ℕ → X) (a b c d e g : ℕ) → a ≡ d → b ≡ e → c ≡ g → f a b c ≡ f d e g
of_three_numbers f a b c d e g p q r = cc

pub global_tells : GlobalTellsTransaction
global_tells m n hm hn = (
  λ e. global_read m n hm hn e,
  λ h. of_three_numbers (λ (s : ℕ) (l : ℕ) (g : ℕ). big_bytes 8 s ++ big_bytes 4 l ++ big_bytes 8 g) m.service m.life m.generation n.service n.life n.generation h.0 h.1 h.2,
)
