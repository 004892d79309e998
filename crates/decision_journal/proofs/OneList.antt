-- Octets stand for one list of records.
use Rattle.std.proofs.Common.{◌≡◌, ◌≢◌, ℕ, ◌<◌, ◌≤◌, ◌^◌, List, [], ◌∷◌, ◌++◌, length, take, drop, refl, sym, ap, ◌∙◌, arith, append_assoc, length-append}
use Rattle.std.specs.List.{flat_map, AllByRecursion}
use Rattle.std.proofs.lemmas.List.{take_at, drop_at, append_cancel_left}
use Rattle.std.proofs.lemmas.List.Concat.{flat_map-cons}
use Rattle.decision_journal.specs.declared.record.JournalRecord.{JournalRecord}
use Rattle.decision_journal.specs.Layout.{four, payload, record_octets, Fits}
use Rattle.decision_journal.specs.Reading.{number_at, record_in}
use Rattle.decision_journal.specs.Journal.{StandsFor, front, header}
use Rattle.decision_journal.proofs.Codecs.{four_codec, some_is}
use Rattle.decision_journal.proofs.Records.{record_again}

pub payloads_tell : (r s : JournalRecord) → Fits r → Fits s → payload r ≡ payload s → r ≡ s
payloads_tell r s fr fs e = some_is r s (sym (record_again r fr) ∙ ap record_in e ∙ record_again s fs)

-- a length, and octets behind it
number_first : (n m : ℕ) (x y : List ℕ) → n < 2 ^ 32 → m < 2 ^ 32 → four n ++ x ≡ four m ++ y → (n ≡ m) × (x ≡ y)
number_first n m x y ln lm e =
    let same = some_is (n, x) (m, y) (sym (four_codec.again n x ln) ∙ ap (number_at 4) e ∙ four_codec.again m y lm) in
    (ap (λ (p : ℕ × List ℕ). p.0) same, ap (λ (p : ℕ × List ℕ). p.1) same)

same_parts : (p q x y : List ℕ) → length p ≡ length q → p ++ x ≡ q ++ y → (p ≡ q) × (x ≡ y)
same_parts p q x y len e = (
  sym (take_at p x (length p) refl) ∙ ap (take (length p)) e ∙ take_at q y (length p) (sym len),
  sym (drop_at p x (length p) refl) ∙ ap (drop (length p)) e ∙ drop_at q y (length p) (sym len),
)

pub record_first : (r s : JournalRecord) (x y : List ℕ) → Fits r → Fits s → length (payload r) < 2 ^ 32 → length (payload s) < 2 ^ 32 → record_octets r ++ x ≡ record_octets s ++ y → (r ≡ s) × (x ≡ y)
record_first r s x y fr fs lr ls e =
    let tails : four (length (payload r)) ++ (payload r ++ x) ≡ four (length (payload s)) ++ (payload s ++ y) =
    sym (append_assoc (four (length (payload r))) (payload r) x) ∙ ap (drop 1) e ∙ append_assoc (four (length (payload s))) (payload s) y in
    let lengths = number_first (length (payload r)) (length (payload s)) (payload r ++ x) (payload s ++ y) lr ls tails in
    let parts = same_parts (payload r) (payload s) x y lengths.0 lengths.1 in
    (payloads_tell r s fr fs parts.0, parts.1)

pub head_of : (x y : ℕ) (xs ys : List ℕ) → x ∷ xs ≡ y ∷ ys → x ≡ y
head_of x y xs ys e = cc

-- the octets of a record, and of those behind it
pub unfolded : (r : JournalRecord) (rs : List JournalRecord) (x : List ℕ) → flat_map record_octets (r ∷ rs) ++ x ≡ record_octets r ++ (flat_map record_octets rs ++ x)
unfolded r rs x = ap (λ (l : List ℕ). l ++ x) (flat_map-cons record_octets r rs) ∙ append_assoc (record_octets r) (flat_map record_octets rs) x

long : (r : JournalRecord) (rs : List JournalRecord) → length (payload r) ≤ length (flat_map record_octets (r ∷ rs))
long r rs =
    omega (arith, ap length (flat_map-cons record_octets r rs), length-append (record_octets r) (flat_map record_octets rs), length-append (four (length (payload r))) (payload r))

rest_long : (r : JournalRecord) (rs : List JournalRecord) → length (flat_map record_octets rs) ≤ length (flat_map record_octets (r ∷ rs))
rest_long r rs = omega (arith, ap length (flat_map-cons record_octets r rs), length-append (record_octets r) (flat_map record_octets rs))

same_records : (rs ss : List JournalRecord) (g h : ℕ) (x y : List ℕ) → AllByRecursion Fits rs → AllByRecursion Fits ss → g ≢ 1 → h ≢ 1
    → length (flat_map record_octets rs) < 2 ^ 32 → length (flat_map record_octets ss) < 2 ^ 32
    → flat_map record_octets rs ++ g ∷ x ≡ flat_map record_octets ss ++ h ∷ y → rs ≡ ss
same_records [] [] g h x y fr fs cg ch lr ls e = refl
same_records [] (s ∷ ss) g h x y fr fs cg ch lr ls e = absurd (cg (head_of g 1 x _ (e ∙ unfolded s ss (h ∷ y))))
same_records (r ∷ rs) [] g h x y fr fs cg ch lr ls e = absurd (ch (head_of h 1 y _ (sym e ∙ unfolded r rs (g ∷ x))))
same_records (r ∷ rs) (s ∷ ss) g h x y fr fs cg ch lr ls e =
    let first = record_first r s _ _ fr.0 fs.0 (omega (arith, long r rs, lr)) (omega (arith, long s ss, ls)) (sym (unfolded r rs (g ∷ x)) ∙ e ∙ unfolded s ss (h ∷ y)) in
    let rest = same_records rs ss g h x y fr.1 fs.1 cg ch (omega (arith, rest_long r rs, lr)) (omega (arith, rest_long s ss, ls)) first.1 in
    ap (λ (r : JournalRecord). r ∷ rs) first.0 ∙ ap (λ (l : List JournalRecord). s ∷ l) rest

pub one_list : (service : ℕ) (octets : List ℕ) (rs ss : List JournalRecord) → StandsFor service octets rs → StandsFor service octets ss → rs ≡ ss
one_list service octets rs ss a b =
    let both : front service rs ++ a.gate ∷ a.behind ≡ front service ss ++ b.gate ∷ b.behind = sym a.octets_are ∙ b.octets_are in
    let behind : flat_map record_octets rs ++ a.gate ∷ a.behind ≡ flat_map record_octets ss ++ b.gate ∷ b.behind =
    append_cancel_left (header service) _ _ (sym (append_assoc (header service) (flat_map record_octets rs) (a.gate ∷ a.behind)) ∙ both ∙ append_assoc (header service) (flat_map record_octets ss) (b.gate ∷ b.behind)) in
    same_records rs ss a.gate b.gate a.behind b.behind a.fit b.fit a.closed b.closed
    (omega (arith, a.within, length-append (header service) (flat_map record_octets rs)))
    (omega (arith, b.within, length-append (header service) (flat_map record_octets ss)))
    behind
