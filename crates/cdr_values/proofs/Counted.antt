-- Sequences of octets and strings: what is read is spelled so, and what is spelled so is read.
use Rattle.std.proofs.Common.{◌≡◌, ℕ, ◌+◌, ◌-◌, ◌<◌, true, false, not, ◌&&◌, cond, ltb, eqb, List, [], ◌∷◌, ◌++◌, length, get_or, take, Ok, Err, refl, sym, ap, subst, ◌∙◌, append_assoc, arith}
use Rattle.std.specs.Prelude.{slice_index}
use Rattle.std.proofs.lemmas.Bool.{ltb-true, ltb-false, le-ltb, lt-ltb, eqb-true, and_parts, not-true}
use Rattle.std.proofs.lemmas.List.{take_at, drop_at, take_more, take_all, get_or_push, take-append-drop, length-append, length-take, length_push}
use Rattle.cdr_values.specs.declared.fault.CdrFault.TheVariants.{Short, TooLong, BadString}
use Rattle.cdr_values.specs.Value.{OctetSequence, Text, IsNumber, IsCounted, has_nul}
use Rattle.cdr_values.specs.Reading.{Reading, Reads, further, is_string, number_at, octets_at, string_at, text_in}
use Rattle.cdr_values.specs.Limits.{length_limit}
use Rattle.cdr_values.proofs.Given.{ok_is, bind_ok, guard_ok, pass_ok}
use Rattle.cdr_values.proofs.Standing.{Stands, reads_from, stands_from, stands_then, reading_is}
use Rattle.cdr_values.proofs.Numbers.{number_found, number_only}

-- octets that are read behind their count stand there with it
pub counted_found : (items : List ℕ) (r behind : Reading) → octets_at r ≡ Ok (items, behind) → (octets : List ℕ) × Stands 4 r octets behind × IsCounted r.order items octets
unfolding octets_at
counted_found items r behind e =
    let b = bind_ok (number_at 4 r) (λ count. cond (ltb length_limit count.0) (Err (TooLong r.place count.0)) (cond (ltb (length count.1.rest) count.0) (Err (Short r.place)) (Ok (take count.0 count.1.rest, further count.1 count.0)))) (items, behind) e in
    let n = b.0.0 in
    let middle = b.0.1 in
    let q = guard_ok (ltb length_limit n) (TooLong r.place n) (cond (ltb (length middle.rest) n) (Err (Short r.place)) (Ok (take n middle.rest, further middle n))) (items, behind) b.2 in
    let p = guard_ok (ltb (length middle.rest) n) (Short r.place) (Ok (take n middle.rest, further middle n)) (items, behind) q.1 in
    let count = number_found 4 n r middle b.1 in
    let size : length (take n middle.rest) ≡ n = omega (arith, length-take n middle.rest, ltb-false _ _ p.0) in
    let stands = stands_then 4 r count.0 middle (take n middle.rest) (further middle n) count.1 (sym (take-append-drop n middle.rest)) (ap (λ (k : ℕ). middle.place + k) (sym size)) refl in
    let counted : IsCounted r.order (take n middle.rest) (count.0 ++ take n middle.rest) = record { count = count.0; parts = refl; counted = subst (λ (k : ℕ). IsNumber r.order 4 k count.0) (sym size) count.2; few = omega (arith, size, ltb-false _ _ q.0) } in
    subst (λ (x : List ℕ × Reading). (octets : List ℕ) × Stands 4 r octets x.1 × IsCounted r.order x.0 octets) (ok_is (take n middle.rest, further middle n) (items, behind) p.1) (count.0 ++ take n middle.rest, stands, counted)

-- and where they stand they are read
pub counted_only : (items : List ℕ) (r behind : Reading) (octets : List ℕ) → Stands 4 r octets behind → IsCounted r.order items octets → octets_at r ≡ Ok (items, behind)
unfolding octets_at
counted_only items r behind octets s is =
    let n = length items in
    let count = is.count in
    let middle : Reading = record { order = r.order; place = r.place + length (s.padding ++ count); rest = items ++ behind.rest } in
    let whole : s.padding ++ octets ≡ (s.padding ++ count) ++ items = ap (λ (x : List ℕ). s.padding ++ x) is.parts ∙ sym (append_assoc s.padding count items) in
    let front : Stands 4 r count middle = record { padding = s.padding; parts = s.parts ∙ ap (λ (x : List ℕ). x ++ behind.rest) whole ∙ append_assoc (s.padding ++ count) items behind.rest; aligned = s.aligned; place = refl; order = refl } in
    let few : ltb length_limit n ≡ false = le-ltb _ _ is.few in
    let long : ltb (length (items ++ behind.rest)) n ≡ false = le-ltb _ _ (omega (arith, length-append items behind.rest)) in
    let after : further middle n ≡ behind = reading_is (further middle n) behind (sym s.order) (omega (arith, s.place, ap length whole, length-append (s.padding ++ count) items)) (drop_at items behind.rest n refl) in
    rw (number_only 4 n r middle count front is.counted, few, long, take_at items behind.rest n refl, after) refl

-- a sequence that is read stands there
pub octets_found : (items : List ℕ) (r behind : Reading) → octets_at r ≡ Ok (items, behind) → Reads r (OctetSequence items) behind
octets_found items r behind e =
    let f = counted_found items r behind e in
    reads_from (OctetSequence items) r f.0 behind f.1 f.2

-- and where it stands it is read
pub octets_only : (items : List ℕ) (r behind : Reading) → Reads r (OctetSequence items) behind → octets_at r ≡ Ok (items, behind)
octets_only items r behind h = counted_only items r behind h.spelled.bare (stands_from (OctetSequence items) r behind h) h.spelled.is_bare

-- the octets of a string are its text and a NUL
pub string_parts : (octets : List ℕ) → is_string octets ≡ true → (text_in octets ++ 0 ∷ [] ≡ octets) × (has_nul (text_in octets) ≡ false)
string_parts octets e =
    let n = length octets - 1 in
    let none = not (has_nul (take n octets)) in
    let ended = eqb (slice_index octets n) 0 in
    let a = and_parts (ltb 0 (length octets) && ended) none e in
    let b = and_parts (ltb 0 (length octets)) ended a.0 in
    let long : n < length octets = omega (arith, ltb-true _ _ b.0) in
    let last : get_or octets n 0 ≡ 0 = eqb-true _ _ b.1 in
    let all : take (n + 1) octets ≡ octets = take_all (n + 1) octets (omega arith) in
    (ap (λ (x : ℕ). text_in octets ++ x ∷ []) (sym last) ∙ sym (take_more octets n 0 long) ∙ all, not-true _ a.1)

-- a text and a NUL are the octets of a string
pub string_again : (text : List ℕ) → has_nul text ≡ false → (is_string (text ++ 0 ∷ []) ≡ true) × (text_in (text ++ 0 ∷ []) ≡ text)
string_again text none =
    let size : length (text ++ 0 ∷ []) - 1 ≡ length text = omega (arith, length_push text 0) in
    let front : text_in (text ++ 0 ∷ []) ≡ text = ap (λ (k : ℕ). take k (text ++ 0 ∷ [])) size ∙ take_at text (0 ∷ []) (length text) refl in
    let last : get_or (text ++ 0 ∷ []) (length (text ++ 0 ∷ []) - 1) 0 ≡ 0 = ap (λ (k : ℕ). get_or (text ++ 0 ∷ []) k 0) size ∙ get_or_push text 0 0 (length text) refl in
    let some : ltb 0 (length (text ++ 0 ∷ [])) ≡ true = lt-ltb _ _ (omega (arith, length_push text 0)) in
    (rw (some, last, front, none) refl, front)

-- a string that is read stands there
pub string_found : (text : List ℕ) (r behind : Reading) → string_at r ≡ Ok (text, behind) → Reads r (Text text) behind
unfolding string_at
string_found text r behind e =
    let b = bind_ok (octets_at r) (λ counted. cond (is_string counted.0) (Ok (text_in counted.0, counted.1)) (Err (BadString r.place))) (text, behind) e in
    let items = b.0.0 in
    let q = pass_ok (is_string items) (BadString r.place) (Ok (text_in items, b.0.1)) (text, behind) b.2 in
    let parts = string_parts items q.0 in
    let f = counted_found items r b.0.1 b.1 in
    let bare : IsCounted r.order (text_in items ++ 0 ∷ []) f.0 × (has_nul (text_in items) ≡ false) = (subst (λ (x : List ℕ). IsCounted r.order x f.0) (sym parts.0) f.2, parts.1) in
    subst (λ (x : List ℕ × Reading). Reads r (Text x.0) x.1) (ok_is (text_in items, b.0.1) (text, behind) q.1) (reads_from (Text (text_in items)) r f.0 b.0.1 f.1 bare)

-- and where it stands it is read
pub string_only : (text : List ℕ) (r behind : Reading) → Reads r (Text text) behind → string_at r ≡ Ok (text, behind)
unfolding string_at
string_only text r behind h =
    let is = h.spelled.is_bare in
    let again = string_again text is.1 in
    rw (counted_only (text ++ 0 ∷ []) r behind h.spelled.bare (stands_from (Text text) r behind h) is.0) (rw again.0 (ap (λ (x : List ℕ). Ok (x, behind)) again.1))
