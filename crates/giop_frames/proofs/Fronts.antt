-- The front of a header, octet by octet.
use Rattle.std.proofs.Common.{◌≡◌, ℕ, ◌+◌, ◌-◌, ◌<◌, ◌≤◌, ⊎_elim, Bool, true, false, not, nat_eq, List, [], ◌∷◌, ◌++◌, length, get_or, take, drop, Option, Some, None, Ok, Err, refl, sym, ap, ◌∙◌, append_assoc, arith}
use Rattle.std.specs.Prelude.{◌≢◌, IfSome, slice_index}
use Rattle.std.specs.List.{starts_with}
use Rattle.std.proofs.lemmas.Bool.{le-ltb, lt-ltb, cases_lt}
use Rattle.std.proofs.lemmas.Bool.Decides.{Decides-eqb}
use Rattle.std.proofs.lemmas.List.{drop-append-le, drop_at, drop_more, get_or_append_left, get_or-append_right, get_or_past, length-append, length-drop, length-take, take-append-drop, take-append-le, take_all, take_at}
use Rattle.std.proofs.lemmas.Slice.Eq.{starts_is}
use Rattle.giop_frames.specs.declared.fault.FrameFault.{FrameFault}
use Rattle.giop_frames.specs.declared.header.Header.{Header}
use Rattle.giop_frames.specs.declared.header_walk.HeaderWalk.{HeaderWalk}
use Rattle.giop_frames.specs.declared.fault.FrameFault.TheVariants.{BadMagic, BadVersion, BadType, Short}
use Rattle.giop_frames.specs.declared.layout.Version.{Version}
use Rattle.giop_frames.specs.Header.{header_at, header_of, magic, version_at, version_octets}
use Rattle.giop_frames.specs.HeaderWalk.{IsFront, IsSound, taken}
use Rattle.giop_frames.proofs.Further.{header_same, header_short, header_stays, slice_same}
use Rattle.giop_frames.proofs.Headers.{found, header_long}

-- ---- what a front says

short_by : (told : Option Version) (octets : List ℕ) → (4 < length octets → told ≢ None) → slice_index octets 7 ≤ 7 → length octets < 12 → header_of told octets ≡ Err Short
short_by None octets known type few = ⊎_elim (λ h. absurd (known h refl)) (λ h. rw (le-ltb 4 (length octets) h) refl) (cases_lt 4 (length octets))
short_by (Some version) octets known type few = rw (le-ltb 7 (slice_index octets 7) type, lt-ltb (length octets) 12 few) refl

-- of a front that isn't whole octets are wanting
pub front_short : (versions : List Version) (octets : List ℕ) (version : Option Version) → IsFront versions octets version → length octets < 12 → header_at versions octets ≡ Err Short
unfolding header_at
front_short versions octets version f few =
    let known : 4 < length octets → version_at versions (take 2 (drop 4 octets)) ≢ None = λ long e. f.known long (sym (f.version_is long) ∙ e) in
    rw f.marked (short_by (version_at versions (take 2 (drop 4 octets))) octets known f.typed few)

-- behind its magic and version it says what a header of this version does
pub front_says : (versions : List Version) (octets : List ℕ) (version : Option Version) → IsFront versions octets version → 4 < length octets → header_at versions octets ≡ header_of version octets
unfolding header_at
front_says versions octets version f long = rw (f.marked, f.version_is long) refl

-- no octets are a front
pub front_empty : (versions : List Version) → IsFront versions [] None
front_empty versions = record {
  marked = refl;
  version_is = λ long. absurd (omega (arith, long));
  known = λ long. absurd (omega (arith, long));
  typed = omega arith;
}

-- ---- the magic

-- an octet more
abbrev more : List ℕ → ℕ → List ℕ
more front octet = front ++ octet ∷ []

-- what a front has is the magic's
begins : (versions : List Version) (front : List ℕ) (version : Option Version) → length front < 4 → IsFront versions front version → magic ≡ front ++ (get_or magic (length front) 0 ∷ drop (length front + 1) magic)
begins versions front version few f =
    let marked : starts_with nat_eq magic front ≡ true = ap (starts_with nat_eq magic) (sym (take_all 4 front (omega (arith, few)))) ∙ f.marked in
    let split : magic ≡ front ++ drop (length front) magic = (starts_is Decides-eqb magic front (starts_with nat_eq magic front) refl).0 marked in
    split ∙ ap (λ (x : List ℕ). front ++ x) (drop_more magic (length front) 0 (omega (arith, few)))

pub front_marked : (versions : List Version) (front : List ℕ) (octet : ℕ) (version : Option Version) → length front < 4 → IsFront versions front version → octet ≡ get_or magic (length front) 0 → IsFront versions (more front octet) version
front_marked versions front octet version few f is =
    let all = more front octet in
    let size : length all ≡ length front + 1 = omega (arith, length-append front (octet ∷ [])) in
    let rest : List ℕ = drop (length front + 1) magic in
    let split : magic ≡ all ++ rest = begins versions front version few f ∙ ap (λ (x : ℕ). front ++ (x ∷ rest)) (sym is) ∙ sym (append_assoc front (octet ∷ []) rest) in
    let marked : starts_with nat_eq magic all ≡ true = (starts_is Decides-eqb magic all (starts_with nat_eq magic all) refl).1 rest split in
    record {
      marked = ap (starts_with nat_eq magic) (take_all 4 all (omega (arith, size, few))) ∙ marked;
      version_is = λ long. absurd (omega (arith, long, size, few));
      known = λ long. absurd (omega (arith, long, size, few));
      typed = omega (arith, get_or_past all 7 0 (omega (arith, size, few)));
    }

not_so : (b : Bool) → (b ≡ true → ⊥) → not b ≡ true
not_so true never = absurd (never refl)
not_so false never = refl

pub front_bad : (versions : List Version) (front : List ℕ) (octet : ℕ) (version : Option Version) → length front < 4 → IsFront versions front version → (octet ≡ get_or magic (length front) 0 → ⊥) → header_at versions (more front octet) ≡ Err BadMagic
unfolding header_at
front_bad versions front octet version few f other =
    let all = more front octet in
    let n = length front in
    let size : length all ≡ n + 1 = omega (arith, length-append front (octet ∷ [])) in
    let first : n - n ≡ 0 = omega arith in
    let lacks : not (starts_with nat_eq magic all) ≡ true = not_so (starts_with nat_eq magic all) (λ e.
    let split : magic ≡ all ++ drop (length all) magic = (starts_is Decides-eqb magic all (starts_with nat_eq magic all) refl).0 e in
    let at : get_or magic n 0 ≡ octet = ap (λ (x : List ℕ). get_or x n 0) split ∙ get_or_append_left all (drop (length all) magic) 0 n (omega (arith, size)) ∙ get_or-append_right front (octet ∷ []) n n 0 refl (omega arith) ∙ ap (λ (k : ℕ). get_or (octet ∷ []) k 0) first in
    other (sym at)) in
    rw (take_all 4 all (omega (arith, size, few)), lacks) refl

-- ---- the version

-- the octets behind the magic, once its version's first one has come
pub first_behind : (front : List ℕ) (octet : ℕ) → length front ≡ 4 → take 2 (drop 4 (more front octet)) ≡ octet ∷ []
first_behind front octet size = ap (take 2) (drop_at front (octet ∷ []) 4 size)

-- one octet, as a list
one_octet : (octets : List ℕ) → length octets ≡ 1 → octets ≡ get_or octets 0 0 ∷ []
one_octet [] size = absurd (omega (arith, size))
one_octet (x ∷ []) size = refl
one_octet (x ∷ y ∷ octets) size = absurd (omega (arith, size))

major_by : (versions : List Version) (octets : List ℕ) (version : Option Version) → version_at versions octets ≡ version → version ≢ None → length octets ≡ 1 → octets ≡ 1 ∷ []
major_by versions octets None is known size = absurd (known refl)
major_by versions octets (Some version) is known size =
    let mark : List ℕ = version_octets version in
    let split : mark ≡ octets ++ drop (length octets) mark = (starts_is Decides-eqb mark octets (starts_with nat_eq mark octets) refl).0 (found versions octets version is).stands in
    let first : get_or mark 0 0 ≡ get_or octets 0 0 = ap (λ (x : List ℕ). get_or x 0 0) split ∙ get_or_append_left octets (drop (length octets) mark) 0 0 (omega (arith, size)) in
    one_octet octets size ∙ ap (λ (x : ℕ). x ∷ []) (sym first)

-- once its second one has come
pub second_behind : (versions : List Version) (front : List ℕ) (octet : ℕ) (version : Option Version) → length front ≡ 5 → IsFront versions front version → take 2 (drop 4 (more front octet)) ≡ 1 ∷ octet ∷ []
second_behind versions front octet version size f =
    let behind : List ℕ = drop 4 front in
    let few : length behind ≡ 1 = omega (arith, length-drop 4 front, size) in
    let all : take 2 behind ≡ behind = take_all 2 behind (omega (arith, few)) in
    let is : version_at versions behind ≡ version = ap (version_at versions) (sym all) ∙ f.version_is (omega (arith, size)) in
    let major : behind ≡ 1 ∷ [] = major_by versions behind version is (f.known (omega (arith, size))) few in
    ap (take 2) (drop-append-le 4 front (octet ∷ []) (omega (arith, size))) ∙ ap (λ (x : List ℕ). take 2 (x ++ octet ∷ [])) major

pub front_version : (versions : List Version) (front : List ℕ) (octet : ℕ) (version told : Option Version) → 4 ≤ length front → length front < 6 → IsFront versions front version → version_at versions (take 2 (drop 4 (more front octet))) ≡ told → told ≢ None → IsFront versions (more front octet) told
front_version versions front octet version told long few f is known =
    let all = more front octet in
    let size : length all ≡ length front + 1 = omega (arith, length-append front (octet ∷ [])) in
    record {
      marked = ap (starts_with nat_eq magic) (take-append-le 4 front (octet ∷ []) long) ∙ f.marked;
      version_is = λ further. is;
      known = λ further. known;
      typed = omega (arith, get_or_past all 7 0 (omega (arith, size, few)));
    }

pub front_unknown : (versions : List Version) (front : List ℕ) (octet : ℕ) (version : Option Version) → 4 ≤ length front → IsFront versions front version → version_at versions (take 2 (drop 4 (more front octet))) ≡ None → header_at versions (more front octet) ≡ Err BadVersion
unfolding header_at
front_unknown versions front octet version long f is =
    let size : length (more front octet) ≡ length front + 1 = omega (arith, length-append front (octet ∷ [])) in
    rw (take-append-le 4 front (octet ∷ []) long, f.marked, is, lt-ltb 4 (length (more front octet)) (omega (arith, size, long))) refl

-- ---- the flags, the type and the size

-- the octet at a place of a front and one more
type_by : (front : List ℕ) (octet : ℕ) → slice_index front 7 ≤ 7 → (length front ≡ 7 → octet ≤ 7) → slice_index (more front octet) 7 ≤ 7
type_by front octet before now =
    ⊎_elim (λ h. omega (arith, before, get_or_append_left front (octet ∷ []) 0 7 h)) (λ h.
    ⊎_elim (λ k.
    let size : length front ≡ 7 = omega (arith, h, k) in
    let at : get_or (more front octet) 7 0 ≡ octet = get_or-append_right front (octet ∷ []) 7 7 0 size (omega arith) in
    omega (arith, at, now size)) (λ k. omega (arith, get_or_past (more front octet) 7 0 (omega (arith, k, length-append front (octet ∷ []))))) (cases_lt 6 (length front))) (cases_lt 7 (length front))

pub front_more : (versions : List Version) (front : List ℕ) (octet : ℕ) (version : Option Version) → 6 ≤ length front → IsFront versions front version → (length front ≡ 7 → octet ≤ 7) → IsFront versions (more front octet) version
front_more versions front octet version long f type =
    record {
      marked = ap (starts_with nat_eq magic) (take-append-le 4 front (octet ∷ []) (omega (arith, long))) ∙ f.marked;
      version_is = λ further. ap (version_at versions) (slice_same 4 2 front (octet ∷ []) (omega (arith, long))) ∙ f.version_is (omega (arith, long));
      known = λ further. f.known (omega (arith, long));
      typed = type_by front octet f.typed type;
    }

bad_by : (told : Option Version) (octets : List ℕ) → told ≢ None → 7 < slice_index octets 7 → header_of told octets ≡ Err BadType
bad_by None octets known high = absurd (known refl)
bad_by (Some version) octets known high = rw (lt-ltb 7 (slice_index octets 7) high) refl

pub front_type : (versions : List Version) (front : List ℕ) (octet : ℕ) (version : Option Version) → length front ≡ 7 → IsFront versions front version → 7 < octet → header_at versions (more front octet) ≡ Err BadType
unfolding header_at
front_type versions front octet version size f high =
    let all = more front octet in
    let at : get_or all 7 0 ≡ octet = get_or-append_right front (octet ∷ []) 7 7 0 size (omega arith) in
    rw (take-append-le 4 front (octet ∷ []) (omega (arith, size)), f.marked, slice_same 4 2 front (octet ∷ []) (omega (arith, size)), f.version_is (omega (arith, size))) (bad_by version all (f.known (omega (arith, size))) (omega (arith, at, high)))

-- ---- a walk over a header

-- what octets say they say with more behind them: a header, and a fault
pub whole_on : (versions : List Version) (front further all : List ℕ) (header : Header) → header_at versions front ≡ Ok header → all ≡ front ++ further → header_at versions all ≡ Ok header
whole_on versions front further all header e is = ap (header_at versions) is ∙ header_same versions front further (header_long versions front header e) ∙ e

pub refused_on : (versions : List Version) (front further all : List ℕ) (fault : FrameFault) → header_at versions front ≡ Err fault → fault ≢ Short → all ≡ front ++ further → header_at versions all ≡ Err fault
refused_on versions front further all fault e other is = ap (header_at versions) is ∙ header_stays versions front further fault e other

-- a walk has taken as many octets as it says
pub taken_length : (versions : List Version) (w : HeaderWalk) → IsSound versions w → length (taken w) ≡ w.count
taken_length versions w s = omega (arith, length-take w.count w.octets, s.sized, s.few)

-- all twelve, once its header is whole
pub taken_whole : (versions : List Version) (w : HeaderWalk) (header : Header) → IsSound versions w → header_at versions (taken w) ≡ Ok header → w.count ≡ 12
taken_whole versions w header s e = omega (arith, taken_length versions w s, header_long versions (taken w) header e, s.few)

-- octets are wanting before
pub taken_short : (versions : List Version) (w : HeaderWalk) → IsSound versions w → w.header ≡ None → header_at versions (taken w) ≡ Err Short
taken_short versions w s none = front_short versions (taken w) w.version s.front (omega (arith, taken_length versions w s, s.partial none))

-- twelve octets that are a front say what a header of its version does
pub said_whole : (versions : List Version) (version : Option Version) (octets all : List ℕ) (count : ℕ) → IsFront versions all version → all ≡ take count octets → length octets ≡ 12 → count ≡ 12 → header_at versions all ≡ header_of version octets
said_whole versions version octets all count f is size n =
    let same : all ≡ octets = is ∙ take_all count octets (omega (arith, size, n)) in
    front_says versions all version f (omega (arith, ap length same, size)) ∙ ap (header_of version) same

-- a header of twelve octets wants none
pub not_short : (versions : List Version) (octets : List ℕ) (fault : FrameFault) → header_at versions octets ≡ Err fault → 12 ≤ length octets → fault ≢ Short
not_short versions octets fault e long short = absurd (omega (arith, long, header_short versions octets (e ∙ ap (λ (f : FrameFault). Err f) short)))

-- what a header of twelve octets says is known then
pub whole_told : (versions : List Version) (version : Option Version) (octets all : List ℕ) (count : ℕ) (header : Option Header) → IsFront versions all version → all ≡ take count octets → length octets ≡ 12
    → IfSome header (λ h. (count ≡ 12) × (header_of version octets ≡ Ok h)) → IfSome header (λ h. header_at versions (take count octets) ≡ Ok h)
whole_told versions version octets all count None f is size told = tt
whole_told versions version octets all count (Some header) f is size told = ap (header_at versions) (sym is) ∙ said_whole versions version octets all count f is size told.0 ∙ told.1

-- octets that were taken, one more, and those behind it
pub one_further : (old now octets : List ℕ) (i : ℕ) → i < length octets → now ≡ old ++ take i octets → old ++ octets ≡ (now ++ get_or octets i 0 ∷ []) ++ drop (i + 1) octets
one_further old now octets i lt is =
    let rest : List ℕ = drop (i + 1) octets in
    let one : ℕ = get_or octets i 0 in
    ap (λ (x : List ℕ). old ++ x) (sym (take-append-drop i octets) ∙ ap (λ (x : List ℕ). take i octets ++ x) (drop_more octets i 0 lt)) ∙ sym (append_assoc old (take i octets) (one ∷ rest))
    ∙ ap (λ (x : List ℕ). x ++ (one ∷ rest)) (sym is) ∙ sym (append_assoc now (one ∷ []) rest)

pub so_further : (old now octets : List ℕ) (i : ℕ) → now ≡ old ++ take i octets → old ++ octets ≡ now ++ drop i octets
so_further old now octets i is = ap (λ (x : List ℕ). old ++ x) (sym (take-append-drop i octets)) ∙ sym (append_assoc old (take i octets) (drop i octets)) ∙ ap (λ (x : List ℕ). x ++ drop i octets) (sym is)

-- what a walk has taken is in front
pub taken_front : (versions : List Version) (w : HeaderWalk) (all further : List ℕ) → IsSound versions w → all ≡ taken w ++ further → taken w ≡ take w.count all
taken_front versions w all further s is = sym (ap (take w.count) is ∙ take_at (taken w) further w.count (taken_length versions w s))
