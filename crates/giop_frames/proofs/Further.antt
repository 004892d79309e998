-- What stands in front of octets stands there too where more octets follow, and a fault that is found there stays found.
use Rattle.std.proofs.Common.{◌≡◌, ℕ, zero, suc, ◌+◌, ◌<◌, ◌≤◌, ◌⊎◌, inl, inr, ⊎_elim, Bool, true, false, cond, not, nat_eq, ltb, List, [], ◌∷◌, ◌++◌, length, get_or, take, drop, Option, Some, None, Result, Ok, Err, refl, sym, ap, ◌∙◌, append_assoc, arith}
use Rattle.std.specs.Prelude.{◌≢◌, ◌||◌, slice_index, IfErr}
use Rattle.std.specs.List.{starts_with}
use Rattle.std.proofs.lemmas.Bool.{ltb-true, ltb-false, le-ltb, lt-ltb, cases_lt}
use Rattle.std.proofs.lemmas.Bool.Decides.{Decides-eqb}
use Rattle.std.proofs.lemmas.List.{drop-append-le, take-append-le, get_or_append_left, get_or_past, length-append, length-drop}
use Rattle.std.proofs.lemmas.Slice.Eq.{starts_is}
use Rattle.cdr_values.specs.Reading.{◌>>=◌}
use Rattle.giop_frames.specs.declared.fault.FrameFault.{FrameFault}
use Rattle.giop_frames.specs.declared.fault.FrameFault.TheVariants.{BadMagic, BadVersion, BadType, BadFragment, Short, TooLarge}
use Rattle.giop_frames.specs.declared.fault.FrameFault.TheVariants as faults
use Rattle.giop_frames.specs.declared.header.Header.{Header}
use Rattle.giop_frames.specs.declared.layout.Version.{Version}
use Rattle.giop_frames.specs.declared.message.Message.{Message}
use Rattle.giop_frames.specs.Fault.{Fails, Finds}
use Rattle.giop_frames.specs.Header.{magic, size_at, version_at, version_octets, is_fragment, header_at, header_of}
use Rattle.giop_frames.specs.Decode.{IsRefusedForGood, decoded}
use Rattle.giop_frames.specs.Limits.{size_limit}
use Rattle.giop_frames.proofs.Headers.{header_long}

-- ---- faults of steps

-- a result that failed
abbrev failed : {A : Type 0} → FrameFault → Result A FrameFault
failed fault = Err fault

-- results that failed alike have one fault
err_is : {A : Type 0} (f g : FrameFault) → failed {A = A} f ≡ failed g → f ≡ g
err_is f g e = cc

-- a test that failed, or what followed it
guard_err : {A : Type 0} (b : Bool) (d : FrameFault) (r : Result A FrameFault) (f : FrameFault) → cond b (Err d) r ≡ Err f → ((b ≡ true) × (d ≡ f)) ⊎ ((b ≡ false) × (r ≡ Err f))
guard_err {A} true d r f e = inl (refl, err_is {A = A} d f e)
guard_err false d r f e = inr (refl, e)

-- a step that failed, or what followed it
bind_err : {A B : Type 0} (r : Result A FrameFault) (f : A → Result B FrameFault) (fault : FrameFault) → (r >>= f) ≡ Err fault → (r ≡ Err fault) ⊎ ((x : A) × (r ≡ Ok x) × (f x ≡ Err fault))
bind_err (Ok x) f fault e = inr (x, refl, e)
bind_err {A} {B} (Err d) f fault e = inl (ap (failed {A = A}) (err_is {A = B} d fault e))

-- ---- tests of the octets in front

-- there is no mark in front, as far as the octets go
abbrev pub lacks : List ℕ → List ℕ → Bool
lacks mark octets = not (starts_with nat_eq mark octets)

-- a fact that more octets tell
later : (a b : Bool) → (b ≡ true → a ≡ true) → not a ≡ true → not b ≡ true
later a false h e = refl
later true true h e = absurd cc
later false true h e = let no : false ≡ true = h refl in absurd cc

-- a mark that is lacking is lacking with more octets too
lacks_more : (mark octets more : List ℕ) → lacks mark octets ≡ true → lacks mark (octets ++ more) ≡ true
lacks_more mark octets more =
    let all = octets ++ more in
    let past = drop (length all) mark in
    later (starts_with nat_eq mark octets) (starts_with nat_eq mark all) (λ e.
    let split : mark ≡ all ++ past = (starts_is Decides-eqb mark all (starts_with nat_eq mark all) refl).0 e in
    (starts_is Decides-eqb mark octets (starts_with nat_eq mark octets) refl).1 (more ++ past) (split ∙ append_assoc octets more past))

-- of the first n octets none goes
take_more : (n : ℕ) (octets more : List ℕ) → (further : List ℕ) × (take n (octets ++ more) ≡ take n octets ++ further)
take_more zero octets more = ([], refl)
take_more (suc n) [] more = (take (suc n) more, refl)
take_more (suc n) (x ∷ xs) more = let t = take_more n xs more in (t.0, ap (λ (y : List ℕ). x ∷ y) t.1)

-- a mark that the first n octets lack is lacking with more octets too
lacks_first : (mark : List ℕ) (n : ℕ) (octets more : List ℕ) → lacks mark (take n octets) ≡ true → lacks mark (take n (octets ++ more)) ≡ true
lacks_first mark n octets more e =
    let t = take_more n octets more in
    rw t.1 (lacks_more mark (take n octets) t.0 e)

-- an octet that isn't 0 is there
octet_there : (octets : List ℕ) (i n : ℕ) → n < slice_index octets i → i < length octets
octet_there octets i n lt = ⊎_elim {A = i < length octets} {B = length octets ≤ i} (λ h. h) (λ h. let none : get_or octets i 0 ≡ 0 = get_or_past octets i 0 h in absurd (omega (arith, lt, none))) (cases_lt i (length octets))

-- ---- a header that stands in front, and its faults

-- octets up to the n-th stand from the i-th on, whatever follows
pub slice_same : (i n : ℕ) (octets more : List ℕ) → i + n ≤ length octets → take n (drop i (octets ++ more)) ≡ take n (drop i octets)
slice_same i n octets more long = ap (take n) (drop-append-le i octets more (omega arith)) ∙ take-append-le n (drop i octets) more (omega (arith, length-drop i octets))

-- twelve octets tell the header
header_of_same : (found : Option Version) (octets more : List ℕ) → 12 ≤ length octets → header_of found (octets ++ more) ≡ header_of found octets
header_of_same None octets more long = rw (lt-ltb 4 (length (octets ++ more)) (omega (arith, long, length-append octets more)), lt-ltb 4 (length octets) (omega (arith, long))) refl
header_of_same (Some version) octets more long =
    let flags : slice_index (octets ++ more) 6 ≡ slice_index octets 6 = get_or_append_left octets more 0 6 (omega arith) in
    let kind : slice_index (octets ++ more) 7 ≡ slice_index octets 7 = get_or_append_left octets more 0 7 (omega arith) in
    let size : take 4 (drop 8 (octets ++ more)) ≡ take 4 (drop 8 octets) = slice_same 8 4 octets more (omega arith) in
    let all : ltb (length (octets ++ more)) 12 ≡ false = le-ltb _ _ (omega (arith, long, length-append octets more)) in
    rw (flags, kind, size, all, le-ltb (length octets) 12 long) refl

pub header_same : (versions : List Version) (octets more : List ℕ) → 12 ≤ length octets → header_at versions (octets ++ more) ≡ header_at versions octets
unfolding header_at
header_same versions octets more long =
    let first : take 4 (octets ++ more) ≡ take 4 octets = take-append-le 4 octets more (omega arith) in
    let second : take 2 (drop 4 (octets ++ more)) ≡ take 2 (drop 4 octets) = slice_same 4 2 octets more (omega arith) in
    let behind = header_of_same (version_at versions (take 2 (drop 4 octets))) octets more long in
    rw (first, second, behind) refl

-- a bad magic is found before the rest
pub bad_magic : (versions : List Version) (octets more : List ℕ) → lacks magic (take 4 octets) ≡ true → header_at versions (octets ++ more) ≡ Err BadMagic
unfolding header_at
bad_magic versions octets more m = rw (lacks_first magic 4 octets more m) refl

none_both : (b : Bool) (w : Version) (r : Option Version) → cond b (Some w) r ≡ None → (b ≡ false) × (r ≡ None)
none_both true w r e = absurd cc
none_both false w r e = (refl, e)

not_true : (b : Bool) → not b ≡ true → b ≡ false
not_true true e = absurd cc
not_true false e = refl

-- a version that isn't found is not found with more octets
none_more : (versions : List Version) (octets more : List ℕ) → version_at versions octets ≡ None → version_at versions (octets ++ more) ≡ None
none_more [] octets more e = refl
none_more (w ∷ ws) octets more e =
    let a = none_both (starts_with nat_eq (version_octets w) octets) w (version_at ws octets) e in
    let lacking : lacks (version_octets w) octets ≡ true = rw a.0 refl in
    let no : starts_with nat_eq (version_octets w) (octets ++ more) ≡ false = not_true _ (lacks_more (version_octets w) octets more lacking) in
    rw no (none_more ws octets more a.1)

-- a bad version stands behind a whole magic
pub bad_version : (versions : List Version) (octets more : List ℕ) → lacks magic (take 4 octets) ≡ false → 4 < length octets → version_at versions (take 2 (drop 4 octets)) ≡ None → header_at versions (octets ++ more) ≡ Err BadVersion
unfolding header_at
bad_version versions octets more m long v =
    let t = take_more 2 (drop 4 octets) more in
    let behind : take 2 (drop 4 (octets ++ more)) ≡ take 2 (drop 4 octets) ++ t.0 = ap (take 2) (drop-append-le 4 octets more (omega (arith, long))) ∙ t.1 in
    let none : version_at versions (take 2 (drop 4 octets) ++ t.0) ≡ None = none_more versions (take 2 (drop 4 octets)) t.0 v in
    rw (take-append-le 4 octets more (omega (arith, long)), m, behind, none, lt-ltb 4 (length (octets ++ more)) (omega (arith, long, length-append octets more))) refl

-- a bad type stands behind a whole version
pub bad_type : (versions : List Version) (version : Version) (octets more : List ℕ) → lacks magic (take 4 octets) ≡ false → version_at versions (take 2 (drop 4 octets)) ≡ Some version → ltb 7 (slice_index octets 7) ≡ true → header_at versions (octets ++ more) ≡ Err BadType
unfolding header_at
bad_type versions version octets more m v t =
    let long : 7 < length octets = octet_there octets 7 7 (ltb-true _ _ t) in
    let kind : slice_index (octets ++ more) 7 ≡ slice_index octets 7 = get_or_append_left octets more 0 7 long in
    rw (take-append-le 4 octets more (omega arith), m, slice_same 4 2 octets more (omega arith), v, kind, t) refl

-- a fault behind the magic stays found
behind_stays : (versions : List Version) (octets more : List ℕ) (fault : FrameFault) (found : Option Version) → version_at versions (take 2 (drop 4 octets)) ≡ found → header_of found octets ≡ Err fault
    → header_at versions octets ≡ Err fault → fault ≢ Short → lacks magic (take 4 octets) ≡ false → header_at versions (octets ++ more) ≡ Err fault
behind_stays versions octets more fault None is e whole other m =
    elim (guard_err (ltb 4 (length octets)) BadVersion (Err Short) fault e) [
      | inl b ↦ bad_version versions octets more m (ltb-true _ _ b.0) is ∙ ap (failed {A = Header}) b.1
      | inr b ↦ absurd (other (err_is {A = Header} fault Short (sym b.1)))
    ]
behind_stays versions octets more fault (Some version) is e whole other m =
    elim (guard_err (ltb 7 (slice_index octets 7)) BadType _ fault e) [
      | inl c ↦ bad_type versions version octets more m is c.0 ∙ ap (failed {A = Header}) c.1
      | inr c ↦ elim (guard_err (ltb (length octets) 12) Short _ fault c.1) [
        | inl d ↦ absurd (other (sym d.1))
        | inr d ↦ header_same versions octets more (ltb-false _ _ d.0) ∙ whole
      ]
    ]

-- a header's fault that is found stays found
pub header_stays : (versions : List Version) (octets more : List ℕ) (fault : FrameFault) → header_at versions octets ≡ Err fault → fault ≢ Short → header_at versions (octets ++ more) ≡ Err fault
unfolding header_at
header_stays versions octets more fault e other =
    elim (guard_err (lacks magic (take 4 octets)) BadMagic _ fault e) [
      | inl a ↦ bad_magic versions octets more a.0 ∙ ap (failed {A = Header}) a.1
      | inr a ↦ behind_stays versions octets more fault (version_at versions (take 2 (drop 4 octets))) refl a.1 e other a.0
    ]

-- a header of which octets are wanting has fewer than twelve
short_of : (found : Option Version) (octets : List ℕ) → header_of found octets ≡ Err Short → length octets < 12
short_of None octets e =
    elim (guard_err (ltb 4 (length octets)) BadVersion (Err Short) Short e) [
      | inl a ↦ let h : BadVersion ≡ Short = a.1 in absurd cc
      | inr a ↦ omega (arith, ltb-false _ _ a.0)
    ]
short_of (Some version) octets e =
    elim (guard_err (ltb 7 (slice_index octets 7)) BadType _ Short e) [
      | inl a ↦ let h : BadType ≡ Short = a.1 in absurd cc
      | inr a ↦ elim (guard_err (ltb (length octets) 12) Short _ Short a.1) [
        | inl b ↦ ltb-true _ _ b.0
        | inr b ↦ elim (guard_err (ltb size_limit (size_at octets)) (TooLarge (size_at octets)) _ Short b.1) [
          | inl c ↦ let h : TooLarge (size_at octets) ≡ Short = c.1 in absurd cc
          | inr c ↦ absurd (let h = c.1 in cc)
        ]
      ]
    ]

pub header_short : (versions : List Version) (octets : List ℕ) → header_at versions octets ≡ Err Short → length octets < 12
unfolding header_at
header_short versions octets e =
    elim (guard_err (lacks magic (take 4 octets)) BadMagic _ Short e) [
      | inl a ↦ let h : BadMagic ≡ Short = a.1 in absurd cc
      | inr a ↦ short_of (version_at versions (take 2 (drop 4 octets))) octets a.1
    ]

-- ---- a message in one part

-- a fault of a whole stays
decoded_stays : (versions : List Version) → (octets more : List ℕ) (fault : FrameFault) → decoded versions octets ≡ Err fault → fault ≢ Short → decoded versions (octets ++ more) ≡ Err fault
unfolding decoded
decoded_stays versions octets more fault e other =
    elim (bind_err (header_at versions octets) _ fault e) [
      | inl a ↦ rw (header_stays versions octets more fault a other) refl
      | inr a ↦
          let h = a.0 in
          let same : header_at versions (octets ++ more) ≡ Ok h = header_same versions octets more (header_long versions octets h a.1) ∙ a.1 in
          elim (guard_err (h.more || is_fragment h.kind) BadFragment _ fault a.2) [
            | inl b ↦ rw (same, b.0) (ap (failed {A = Message × ℕ}) b.1)
            | inr b ↦ elim (guard_err (ltb (length octets) (12 + h.size)) Short _ fault b.1) [
              | inl c ↦ absurd (other (sym c.1))
              | inr c ↦
                  let long : 12 + h.size ≤ length octets = ltb-false _ _ c.0 in
                  let longer : ltb (length (octets ++ more)) (12 + h.size) ≡ false = le-ltb _ _ (omega (arith, long, length-append octets more)) in
                  let content : take h.size (drop 12 (octets ++ more)) ≡ take h.size (drop 12 octets) = slice_same 12 h.size octets more long in
                  rw (same, b.0, longer, content) c.1
            ]
          ]
    ]

-- a fault that isn't want of memory is what reading gives
fails_is : {Y : Type 0} (fault : FrameFault) (read : Result Y FrameFault) → Fails fault read → fault ≢ faults.Memory → read ≡ Err fault
fails_is faults.BadMagic read h other = h
fails_is faults.BadVersion read h other = h
fails_is faults.BadType read h other = h
fails_is (faults.TooLarge n) read h other = h
fails_is faults.BadFragment read h other = h
fails_is (faults.Body place cdr) read h other = h
fails_is faults.Short read h other = h
fails_is faults.NotWritten read h other = h
fails_is faults.Memory read h other = absurd (other refl)

-- what a call refuses is refused for good
pub stays_from : (versions : List Version) → {X : Type 0} (view : X → Message × ℕ) (octets : List ℕ) (result : Result X FrameFault) → Finds view result (decoded versions octets) → IfErr result (IsRefusedForGood versions octets)
stays_from versions view octets (Ok x) given = tt
stays_from versions view octets (Err fault) given = λ short memory more. decoded_stays versions octets more fault (fails_is fault (decoded versions octets) given memory) short
