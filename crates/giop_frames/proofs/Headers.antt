-- The header: what is read stands in front, and what stands in front is read.
use Rattle.std.proofs.Common.{◌≡◌, ℕ, zero, suc, ◌+◌, ◌<◌, ◌≤◌, Bool, true, false, cond, not, nat_eq, ltb, List, [], ◌∷◌, ◌++◌, length, take, drop, Option, Some, None, Ok, Err, refl, sym, ap, subst, ◌∙◌, append_assoc, arith}
use Rattle.std.specs.Prelude.{slice_index, slice_index_or}
use Rattle.std.specs.List.{Contains, starts_with}
use Rattle.std.proofs.Math.Seq.{take-append-add}
use Rattle.std.proofs.lemmas.Bool.{ltb-false, le-ltb, not-false}
use Rattle.std.proofs.lemmas.Bool.Decides.{Decides-eqb}
use Rattle.std.proofs.lemmas.List.{take_at, drop_all, drop_more, append-nil, drop-drop, take-append-drop, length-append, length-take, length-drop}
use Rattle.std.proofs.lemmas.Slice.Eq.{starts_is}
use Rattle.giop_frames.specs.declared.fault.FrameFault.TheVariants.{BadMagic, BadVersion, BadType, TooLarge, Short}
use Rattle.giop_frames.specs.declared.header.Kind.{Kind}
use Rattle.giop_frames.specs.declared.header.Kind.TheVariants as kinds
use Rattle.giop_frames.specs.declared.header.Header.{Header}
use Rattle.giop_frames.specs.declared.layout.Version.{Version}
use Rattle.giop_frames.specs.declared.layout.Version.TheVariants.{V1_2}
use Rattle.giop_frames.specs.Header.{magic, minor_octet, version_at, version_octets, type_octet, kind_at, IsPart, size_at, header_at, header_of, header_told}
use Rattle.giop_frames.specs.HeaderWalk.{IsFront}
use Rattle.giop_frames.specs.Limits.{size_limit}
use Rattle.giop_frames.proofs.Given.{ok_is, guard_ok}

-- the octet of a type is that of its type
type_again : (octet : ℕ) → octet ≤ 7 → type_octet (kind_at octet) ≡ octet
type_again zero le = refl
type_again (suc zero) le = refl
type_again (suc (suc zero)) le = refl
type_again (suc (suc (suc zero))) le = refl
type_again (suc (suc (suc (suc zero)))) le = refl
type_again (suc (suc (suc (suc (suc zero))))) le = refl
type_again (suc (suc (suc (suc (suc (suc zero)))))) le = refl
type_again (suc (suc (suc (suc (suc (suc (suc zero))))))) le = refl
type_again (suc (suc (suc (suc (suc (suc (suc (suc n)))))))) le = absurd (omega arith)

-- a type is that of its octet, which is at most 7
kind_again : (kind : Kind) → (kind_at (type_octet kind) ≡ kind) × (ltb 7 (type_octet kind) ≡ false)
kind_again kinds.Request = (refl, refl)
kind_again kinds.Reply = (refl, refl)
kind_again kinds.CancelRequest = (refl, refl)
kind_again kinds.LocateRequest = (refl, refl)
kind_again kinds.LocateReply = (refl, refl)
kind_again kinds.CloseConnection = (refl, refl)
kind_again kinds.MessageError = (refl, refl)
kind_again kinds.Fragment = (refl, refl)

-- the octets of a version are those that it is known by
version_again : (version : Version) → starts_with nat_eq (version_octets version) (version_octets version) ≡ true
version_again V1_2 = refl

-- a mark that is not refused stands there, where there are as many octets
marked : (mark octets : List ℕ) → length octets ≡ length mark → starts_with nat_eq mark octets ≡ true → octets ≡ mark
marked mark octets size e =
    let split : mark ≡ octets ++ drop (length octets) mark = (starts_is Decides-eqb mark octets (starts_with nat_eq mark octets) refl).0 e in
    sym (split ∙ ap (λ (x : List ℕ). octets ++ x) (drop_all (length octets) mark (omega arith)) ∙ append-nil octets)

-- the minor octets of two versions tell them apart
one_minor : (v w : Version) → minor_octet v ≡ minor_octet w → v ≡ w
one_minor V1_2 V1_2 e = refl

-- so do their octets
one_version : (v w : Version) → starts_with nat_eq (version_octets v) (version_octets w) ≡ true → v ≡ w
one_version v w e = one_minor v w (sym (ap (λ (x : List ℕ). slice_index x 1) (marked (version_octets v) (version_octets w) refl e)))

-- a version that is found is admitted, and the octets are its octets so far
pub record IsFound (versions : List Version) (octets : List ℕ) (v : Version) : Type 0 where
  pub admitted : Contains versions v
  pub stands : starts_with nat_eq (version_octets v) octets ≡ true

found_by : (b : Bool) (w : Version) (ws : List Version) (octets : List ℕ) (v : Version) → starts_with nat_eq (version_octets w) octets ≡ b → cond b (Some w) (version_at ws octets) ≡ Some v → (version_at ws octets ≡ Some v → IsFound ws octets v) → IsFound (w ∷ ws) octets v
found_by true w ws octets v is e later =
    let same : w ≡ v = cc in
    record { admitted = (0, omega arith, same); stands = subst (λ (x : Version). starts_with nat_eq (version_octets x) octets ≡ true) same is }
found_by false w ws octets v is e later =
    let f = later e in
    record { admitted = (suc f.admitted.0, omega (arith, f.admitted.1), f.admitted.2); stands = f.stands }

pub found : (versions : List Version) (octets : List ℕ) (v : Version) → version_at versions octets ≡ Some v → IsFound versions octets v
found [] octets v e = absurd cc
found (w ∷ ws) octets v e = found_by (starts_with nat_eq (version_octets w) octets) w ws octets v refl e (found ws octets v)

admits_by : (b : Bool) (w : Version) (ws : List Version) (v : Version) → starts_with nat_eq (version_octets w) (version_octets v) ≡ b → version_at ws (version_octets v) ≡ Some v → cond b (Some w) (version_at ws (version_octets v)) ≡ Some v
admits_by true w ws v is later = ap (λ (x : Version). Some x) (one_version w v is)
admits_by false w ws v is later = later

-- a version that is admitted is found
admits_at : (k : ℕ) (versions : List Version) (v : Version) → k < length versions → slice_index_or versions k v ≡ v → version_at versions (version_octets v) ≡ Some v
admits_at k [] v lt is = absurd (omega (arith, lt))
admits_at zero (w ∷ ws) v lt is =
    let same : w ≡ v = is in
    rw (same, version_again v) refl
admits_at (suc k) (w ∷ ws) v lt is = admits_by (starts_with nat_eq (version_octets w) (version_octets v)) w ws v refl (admits_at k ws v (omega (arith, lt)) is)

admits : (versions : List Version) (v : Version) → Contains versions v → version_at versions (version_octets v) ≡ Some v
admits versions v c = admits_at c.0 versions v c.1 c.2

-- a header is one of a version that was found
version_of : (found : Option Version) (octets : List ℕ) (h : Header) → header_of found octets ≡ Ok h → (v : Version) × (found ≡ Some v) × (header_of (Some v) octets ≡ Ok h)
version_of None octets h e =
    let a = guard_ok (ltb 4 (length octets)) BadVersion (Err Short) h e in
    let no = a.1 in
    absurd cc
version_of (Some v) octets h e = (v, refl, e)

-- the twelve octets of a header
abbrev front : Version → ℕ → ℕ → List ℕ → List ℕ
front version flags kind size = magic ++ (version_octets version ++ (flags ∷ kind ∷ size))

-- twelve octets or more, apart
apart : (octets : List ℕ) → 12 ≤ length octets → octets ≡ take 4 octets ++ (take 2 (drop 4 octets) ++ (slice_index octets 6 ∷ slice_index octets 7 ∷ (take 4 (drop 8 octets) ++ drop 12 octets)))
apart octets long =
    let last : drop 8 octets ≡ take 4 (drop 8 octets) ++ drop 12 octets = sym (take-append-drop 4 (drop 8 octets)) ∙ ap (λ (x : List ℕ). take 4 (drop 8 octets) ++ x) (drop-drop 4 8 octets) in
    let kind : drop 7 octets ≡ slice_index octets 7 ∷ drop 8 octets = drop_more octets 7 0 (omega arith) in
    let flags : drop 6 octets ≡ slice_index octets 6 ∷ drop 7 octets = drop_more octets 6 0 (omega arith) in
    let behind : drop 6 octets ≡ slice_index octets 6 ∷ slice_index octets 7 ∷ (take 4 (drop 8 octets) ++ drop 12 octets) = flags ∙ ap (λ (x : List ℕ). slice_index octets 6 ∷ x) (kind ∙ ap (λ (x : List ℕ). slice_index octets 7 ∷ x) last) in
    let second : drop 4 octets ≡ take 2 (drop 4 octets) ++ drop 6 octets = sym (take-append-drop 2 (drop 4 octets)) ∙ ap (λ (x : List ℕ). take 2 (drop 4 octets) ++ x) (drop-drop 2 4 octets) in
    sym (take-append-drop 4 octets) ∙ ap (λ (x : List ℕ). take 4 octets ++ x) (second ∙ ap (λ (x : List ℕ). take 2 (drop 4 octets) ++ x) behind)

-- the marks, and the numbers of a header that is read
record IsRead (version : Version) (octets : List ℕ) (h : Header) : Type 0 where
  marked : octets ≡ magic ++ (version_octets version ++ (slice_index octets 6 ∷ slice_index octets 7 ∷ (take 4 (drop 8 octets) ++ drop 12 octets)))
  type : slice_index octets 7 ≤ 7
  long : 12 ≤ length octets
  few : size_at octets ≤ size_limit
  same : header_told version octets ≡ h

-- a header that is read has them, of a version that is admitted
record HasRead (versions : List Version) (octets : List ℕ) (h : Header) : Type 0 where
  version : Version
  admitted : Contains versions version
  read : IsRead version octets h

has_read : (versions : List Version) (octets : List ℕ) (h : Header) → header_at versions octets ≡ Ok h → HasRead versions octets h
unfolding header_at
has_read versions octets h e =
    let a = guard_ok (not (starts_with nat_eq magic (take 4 octets))) BadMagic _ h e in
    let b = version_of (version_at versions (take 2 (drop 4 octets))) octets h a.1 in
    let version : Version = b.0 in
    let known = found versions (take 2 (drop 4 octets)) version b.1 in
    let c = guard_ok (ltb 7 (slice_index octets 7)) BadType _ h b.2 in
    let d = guard_ok (ltb (length octets) 12) Short _ h c.1 in
    let f = guard_ok (ltb size_limit (size_at octets)) (TooLarge (size_at octets)) (Ok (header_told version octets)) h d.1 in
    let long : 12 ≤ length octets = ltb-false _ _ d.0 in
    let first : take 4 octets ≡ magic = marked magic (take 4 octets) (omega (arith, length-take 4 octets)) (not-false _ a.0) in
    let second : take 2 (drop 4 octets) ≡ version_octets version = marked (version_octets version) (take 2 (drop 4 octets)) (omega (arith, length-take 2 (drop 4 octets), length-drop 4 octets)) known.stands in
    let behind : List ℕ = slice_index octets 6 ∷ slice_index octets 7 ∷ (take 4 (drop 8 octets) ++ drop 12 octets) in
    let read : IsRead version octets h = record {
      marked = apart octets long ∙ ap (λ (x : List ℕ). x ++ (take 2 (drop 4 octets) ++ behind)) first ∙ ap (λ (x : List ℕ). magic ++ (x ++ behind)) second;
      type = ltb-false _ _ c.0;
      long = long;
      few = ltb-false _ _ f.0;
      same = ok_is (header_told version octets) h f.1;
    } in
    record { version = version; admitted = known.admitted; read = read }

-- the content whose length the header tells stands behind it
is_part : (version : Version) (octets : List ℕ) (h : Header) → IsRead version octets h → 12 + size_at octets ≤ length octets → IsPart (header_told version octets) (take (size_at octets) (drop 12 octets)) (take (12 + size_at octets) octets)
is_part version octets h is long =
    let flags = slice_index octets 6 in
    let kind = slice_index octets 7 in
    let size = take 4 (drop 8 octets) in
    let n = size_at octets in
    let sized : length size ≡ 4 = omega (arith, length-take 4 (drop 8 octets), length-drop 8 octets) in
    let whole : length (front version flags kind size) ≡ 12 = omega (arith, sized) in
    let taken : take (12 + n) (front version flags kind size ++ drop 12 octets) ≡ front version flags kind size ++ take n (drop 12 octets) = subst (λ (k : ℕ). take (k + n) (front version flags kind size ++ drop 12 octets) ≡ front version flags kind size ++ take n (drop 12 octets)) whole (take-append-add (front version flags kind size) (drop 12 octets) n) in
    let typed : front version flags kind size ≡ front version flags (type_octet (kind_at kind)) size = ap (λ (k : ℕ). front version flags k size) (sym (type_again kind is.type)) in
    record {
      flags = flags;
      size = size;
      parts = ap (take (12 + n)) is.marked ∙ taken ∙ ap (λ (x : List ℕ). x ++ take n (drop 12 octets)) typed;
      order_bit = refl;
      more_bit = refl;
      sized = record { size = sized; value = refl };
      counted = omega (arith, length-take n (drop 12 octets), length-drop 12 octets);
      few = is.few;
    }

-- a header that is read is of a version that is admitted, and stands in front of its content, where that is whole
pub header_found : (versions : List Version) (octets : List ℕ) (h : Header) → header_at versions octets ≡ Ok h → 12 + h.size ≤ length octets → Contains versions h.version × IsPart h (take h.size (drop 12 octets)) (take (12 + h.size) octets)
header_found versions octets h e =
    let has = has_read versions octets h e in
    let is = has.read in
    let Holds : Header → Type 0 = λ x. 12 + x.size ≤ length octets → Contains versions x.version × IsPart x (take x.size (drop 12 octets)) (take (12 + x.size) octets) in
    subst Holds is.same (λ long. (has.admitted, is_part has.version octets h is long))

-- its size is within the limit
pub header_small : (versions : List Version) (octets : List ℕ) (h : Header) → header_at versions octets ≡ Ok h → h.size ≤ size_limit
header_small versions octets h e =
    let is = (has_read versions octets h e).read in
    subst (λ (x : Header). x.size ≤ size_limit) is.same is.few

-- it has twelve octets
pub header_long : (versions : List Version) (octets : List ℕ) (h : Header) → header_at versions octets ≡ Ok h → 12 ≤ length octets
header_long versions octets h e = (has_read versions octets h e).read.long

-- and its octets are as the front of a header, of its version
pub header_front : (versions : List Version) (octets : List ℕ) (h : Header) → header_at versions octets ≡ Ok h → IsFront versions octets (Some h.version)
unfolding header_at
header_front versions octets h e =
    let a = guard_ok (not (starts_with nat_eq magic (take 4 octets))) BadMagic _ h e in
    let b = version_of (version_at versions (take 2 (drop 4 octets))) octets h a.1 in
    let version : Version = b.0 in
    let c = guard_ok (ltb 7 (slice_index octets 7)) BadType _ h b.2 in
    let d = guard_ok (ltb (length octets) 12) Short _ h c.1 in
    let f = guard_ok (ltb size_limit (size_at octets)) (TooLarge (size_at octets)) (Ok (header_told version octets)) h d.1 in
    let same : version ≡ h.version = ap (λ (x : Header). x.version) (ok_is (header_told version octets) h f.1) in
    record {
      marked = not-false _ a.0;
      version_is = λ long. b.1 ∙ ap (λ (v : Version). Some v) same;
      known = λ long none. absurd cc;
      typed = ltb-false _ _ c.0;
    }

-- and a header that stands in front is read where its version is admitted, whatever follows its content
pub header_only : (versions : List Version) (h : Header) (content octets rest : List ℕ) → Contains versions h.version → IsPart h content octets → header_at versions (octets ++ rest) ≡ Ok h
unfolding header_at
header_only versions h content octets rest c p =
    let kind = kind_again h.kind in
    let more = content ++ rest in
    let first = front h.version p.flags (type_octet h.kind) p.size in
    let all : octets ++ rest ≡ first ++ more = ap (λ (x : List ℕ). x ++ rest) p.parts ∙ append_assoc first content rest in
    let long : ltb (length (first ++ more)) 12 ≡ false = le-ltb _ _ (omega (arith, length-append p.size more, p.sized.size)) in
    let version : version_at versions (version_octets h.version) ≡ Some h.version = admits versions h.version c in
    rw (all, version, kind.1, long, take_at p.size more 4 p.sized.size, p.order_bit, p.more_bit, p.sized.value, le-ltb size_limit h.size p.few, kind.0) refl
