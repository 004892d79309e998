-- A record behind an open gate is read where there is one.
use Rattle.std.proofs.Common.{◌≡◌, ℕ, ◌+◌, ◌-◌, ◌<◌, ◌≤◌, ◌^◌, Bool, true, false, ltb, List, ◌∷◌, ◌++◌, length, take, drop, Option, Some, None, refl, sym, ap, subst, ◌∙◌, arith, append_assoc, length-append, length-take}
use Rattle.std.specs.Prelude.{IsTrue, IsErrOf, OnOk, Result, Ok, Err, is_err}
use Rattle.std.proofs.lemmas.Bool.{ltb-false, le-ltb}
use Rattle.std.proofs.lemmas.List.{take_at, drop_at, take-append-drop}
use Rattle.decision_journal.specs.declared.record.JournalRecord.{JournalRecord}
use Rattle.decision_journal.specs.Limits.{area_limit}
use Rattle.decision_journal.specs.Layout.{four, payload, record_octets, Fits}
use Rattle.decision_journal.specs.declared.reading.ReadFault.{ReadFault}
use Rattle.decision_journal.specs.declared.reading.ReadFault.TheVariants.{Memory, NoRecord}
use Rattle.decision_journal.specs.Reading.{◌>>=◌, Fails, number_at, kept_octets, record_in, body_at}
use Rattle.decision_journal.specs.Journal.{Found, can_follow, with_record, IsStep, IsWithin, HasNoStep}
use Rattle.decision_journal.proofs.Codecs.{IsOctets, IsOctets-take, bind_some, guard_some, some_is, four_codec}
use Rattle.decision_journal.proofs.Records.{record_again, record_takes}
use Rattle.decision_journal.proofs.Append.{body}

pub body_again : (r : JournalRecord) (rest : List ℕ) → Fits r → length (payload r) < 2 ^ 32 → body_at (body r ++ rest) ≡ Some (r, rest)
unfolding body_at
body_again r rest fits small =
    let long : ltb (length (payload r ++ rest)) (length (payload r)) ≡ false = le-ltb _ _ (omega (arith, length-append (payload r) rest)) in
    ap body_at (append_assoc (four (length (payload r))) (payload r) rest)
    ∙ rw (four_codec.again (length (payload r)) (payload r ++ rest) small, long, take_at (payload r) rest (length (payload r)) refl, drop_at (payload r) rest (length (payload r)) refl, record_again r fits) refl

pub body_takes : (octets : List ℕ) (r : JournalRecord) (rest : List ℕ) → IsOctets octets → body_at octets ≡ Some (r, rest) → (octets ≡ body r ++ rest) × Fits r
unfolding body_at
body_takes octets r rest h e =
    let b = bind_some (number_at 4 octets) (λ n. kept_octets n.0 n.1 >>= λ p. record_in p.0 >>= λ r. Some (r, p.1)) (r, rest) e in
    let n = b.0 in
    let k = bind_some (kept_octets n.0 n.1) (λ p. record_in p.0 >>= λ r. Some (r, p.1)) (r, rest) b.2 in
    let g = guard_some (ltb (length n.1) n.0) (Some (take n.0 n.1, drop n.0 n.1)) k.0 k.1 in
    let x = bind_some (record_in k.0.0) (λ r. Some (r, k.0.1)) (r, rest) k.2 in
    let t = four_codec.takes octets n.0 n.1 h b.1 in
    let long : n.0 ≤ length n.1 = ltb-false _ _ g.0 in
    let cut = some_is (take n.0 n.1, drop n.0 n.1) k.0 g.1 in
    let taken_is : take n.0 n.1 ≡ k.0.0 = ap (λ (p : List ℕ × List ℕ). p.0) cut in
    let rest_is : drop n.0 n.1 ≡ k.0.1 = ap (λ (p : List ℕ × List ℕ). p.1) cut in
    let read = record_takes k.0.0 x.0 (subst IsOctets taken_is (IsOctets-take n.0 n.1 t.0.rest_fits)) x.1 in
    let len : length (payload x.0) ≡ n.0 = omega (arith, length-take n.0 n.1, ap length taken_is, ap length read.0) in
    let behind : n.1 ≡ payload x.0 ++ k.0.1 = sym (take-append-drop n.0 n.1) ∙ ap (λ (l : List ℕ). l ++ drop n.0 n.1) (taken_is ∙ read.0) ∙ ap (λ (l : List ℕ). payload x.0 ++ l) rest_is in
    let whole : octets ≡ body x.0 ++ k.0.1 =
    t.0.parts ∙ ap (λ (m : ℕ). four m ++ n.1) (sym len) ∙ ap (λ (l : List ℕ). four (length (payload x.0)) ++ l) behind ∙ sym (append_assoc (four (length (payload x.0))) (payload x.0) k.0.1) in
    subst (λ (p : JournalRecord × List ℕ). (octets ≡ body p.0 ++ p.1) × Fits p.0) (some_is (x.0, k.0.1) (r, rest) x.2) (whole, read.1)

pub length_record : (r : JournalRecord) → length (record_octets r) ≡ 5 + length (payload r)
length_record r = omega (arith, length-append (four (length (payload r))) (payload r))

length_body : (r : JournalRecord) → length (record_octets r) ≡ 1 + length (body r)
length_body r = omega (arith, length-append (four (length (payload r))) (payload r))

module _ (behind : List ℕ) (item : JournalRecord) (rest : List ℕ) (are : IsOctets behind) (read : body_at behind ≡ Some (item, rest)) where
  taken : (behind ≡ body item ++ rest) × Fits item
  taken = body_takes behind item rest are read

  pub shorter : length behind ≡ length (body item) + length rest
  shorter = omega (arith, ap length taken.0, length-append (body item) rest)

  pub step_size : 1 + (length behind - length rest) ≡ length (record_octets item)
  step_size = omega (arith, shorter, length_body item)

  pub is_step : (gate : ℕ) (before after : Found) → 0 < length rest → gate + (1 + (length behind - length rest)) < area_limit → IsTrue (can_follow before item) → after ≡ with_record before gate item → IsStep gate behind before after rest
  is_step gate before after more within follows after_is = record {
    item = item;
    fits = taken.1;
    follows = follows;
    octets_are = taken.0;
    more = more;
    within = omega (arith, within, step_size);
    after_is = after_is;
  }

abbrev some_of : JournalRecord × List ℕ → Option (JournalRecord × List ℕ)
some_of x = Some x

not_none : (x : JournalRecord × List ℕ) → some_of x ≡ None → ⊥
not_none x e = absurd cc

-- where none is read, there is none
pub none_read : (gate : ℕ) (behind : List ℕ) (found : Found) → body_at behind ≡ None → HasNoStep gate behind found
none_read gate behind found none r end rest fits follows is within =
    let small : length (payload r) < 2 ^ 32 = omega (arith, within, length_record r) in
    not_none (r, end ∷ rest) (sym (body_again r (end ∷ rest) fits small) ∙ ap body_at (sym is) ∙ none)

-- where one is read that doesn't do, no other does
pub other_read : (gate : ℕ) (behind : List ℕ) (found : Found) (item : JournalRecord) (after : List ℕ) → body_at behind ≡ Some (item, after)
    → (0 < length after → gate + length (record_octets item) < area_limit → IsTrue (can_follow found item) → ⊥) → HasNoStep gate behind found
other_read gate behind found item after read bad r end rest fits follows is within =
    let small : length (payload r) < 2 ^ 32 = omega (arith, within, length_record r) in
    let same = some_is (r, end ∷ rest) (item, after) (sym (body_again r (end ∷ rest) fits small) ∙ ap body_at (sym is) ∙ read) in
    let r_is : r ≡ item = ap (λ (p : JournalRecord × List ℕ). p.0) same in
    let rest_is : end ∷ rest ≡ after = ap (λ (p : JournalRecord × List ℕ). p.1) same in
    bad (subst (λ (l : List ℕ). 0 < length l) rest_is (omega arith))
    (subst (λ (r : JournalRecord). gate + length (record_octets r) < area_limit) r_is within) (subst (λ (r : JournalRecord). IsTrue (can_follow found r)) r_is follows)

pub both_ways : (b : Bool) → b ≡ true → b ≡ false → ⊥
both_ways b one other = absurd_path (sym one ∙ other)
  where
    absurd_path : true ≡ false → ⊥
    absurd_path e = absurd cc

-- where reading failed
pub failed_read : {T : Type 0} (fault : ReadFault) (gate : ℕ) (behind : List ℕ) (found : Found) → Fails fault (body_at behind) → IsErrOf {T = T} (Err fault) NoRecord → HasNoStep gate behind found
failed_read Memory gate behind found fails is = absurd cc
failed_read NoRecord gate behind found fails is = none_read gate behind found fails

-- where it has no gate behind it within the limit
pub outside_read : (gate : ℕ) (behind : List ℕ) (found : Found) (item : JournalRecord) (after : List ℕ) → IsOctets behind → body_at behind ≡ Some (item, after) → (IsWithin gate behind after → ⊥) → HasNoStep gate behind found
outside_read gate behind found item after are read bad =
    other_read gate behind found item after read (λ more within follows. bad (more, omega (arith, within, step_size behind item after are read)))

-- where it can't follow
pub unfit_read : (gate : ℕ) (behind : List ℕ) (found : Found) (item : JournalRecord) (after : List ℕ) → body_at behind ≡ Some (item, after) → can_follow found item ≡ false → HasNoStep gate behind found
unfit_read gate behind found item after read bad = other_read gate behind found item after read (λ more within follows. both_ways (can_follow found item) follows bad)

pub ok_of : {T E P : Type 0} (r : Result T E) → is_err r ≡ false → OnOk r P → P
ok_of (Ok x) e p = p
ok_of (Err x) e p = absurd cc
