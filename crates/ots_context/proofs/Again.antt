-- A context that was written is read again.
use Rattle.std.proofs.Common.{◌≡◌, ℕ, suc, ◌+◌, ◌<◌, ◌≤◌, true, cond, ltb, List, [], ◌∷◌, ◌++◌, length, map, Ok, Err, refl, sym, ap, subst, ◌∙◌, arith, length-append, append_assoc}
use Rattle.std.specs.Prelude.{All}
use Rattle.std.specs.List.{flat_map, list_all}
use Rattle.std.specs.Int.{w32, cast_unsigned}
use Rattle.std.proofs.Math.Facts.{Fits-of_z}
use Rattle.std.proofs.lemmas.Int.{to_z-of_z}
use Rattle.std.proofs.lemmas.Bool.{ltb-false, lt-ltb, le-leb}
use Rattle.cdr_values.specs.declared.order.Order.{Order}
use Rattle.cdr_values.specs.declared.order.Order.TheVariants.{Big}
use Rattle.cdr_values.specs.declared.fault.CdrFault.TheVariants.{TooLong}
use Rattle.cdr_values.specs.Again.{AllFit, standing, ValuesAreReadAgain}
use Rattle.cdr_values.specs.Encapsulation.{begun}
use Rattle.cdr_values.specs.Laws.{ReadingLaws}
use Rattle.cdr_values.specs.Sequence.{sequence_values}
use Rattle.cdr_values.specs.Tagged.{reference_values}
use Rattle.cdr_values.specs.Value.{Value, ULong}
use Rattle.cdr_values.specs.Values.{ReadsAll, ValuesAreWrittenCanonically, canonical_all, with_values}
use Rattle.cdr_values.specs.Writing.{Writing, place_of, with_value}
use Rattle.ior_refs.specs.Laws.{ReferencesAreReadExactly}
use Rattle.ots_context.specs.declared.context.Identity.{Identity}
use Rattle.ots_context.specs.declared.context.Context.{Context}
use Rattle.ots_context.specs.declared.context.AnyTail.{AnyTail}
use Rattle.ots_context.specs.declared.fault.ContextFault.{ContextFault}
use Rattle.ots_context.specs.declared.fault.ContextFault.TheVariants.{Cdr, TooMany, TailPlace}
use Rattle.ots_context.specs.Identity.{IsIdentity, allows_fields, fields_of, fields_values, identity_of, identity_values, otid_values}
use Rattle.ots_context.specs.Laws.{ContextsAreReadWhereWritten, IsSound, WrittenContextsAreReadAgain}
use Rattle.ots_context.specs.Reading.{context_at, context_in}
use Rattle.ots_context.specs.Tail.{IsTail, can_stand, octets_of_tail, tail_at}
use Rattle.ots_context.specs.Writing.{behind_current, behind_parents, with_context, with_tail}
use Rattle.ots_context.proofs.Exact.{context_at_only}
use Rattle.ots_context.proofs.Given.{ok_is, guard_ok, check_ok, with_values-append, fit-append}
use Rattle.ots_context.proofs.Tails.{stand_again, tail_found}

-- what holds of all holds of the first and of the others
first_of : (i : Identity) (all : List Identity) → All IsIdentity (i ∷ all) → IsIdentity i
first_of i all h = h 0 i (omega arith)

others_of : (i : Identity) (all : List Identity) → All IsIdentity (i ∷ all) → All IsIdentity all
others_of i all h = λ k d lt. h (suc k) d (omega arith)

-- an identity is that of its fields
identity_again : (i : Identity) → IsIdentity i → i ≡ identity_of (fields_of i)
identity_again i is = rw (to_z-of_z w32 i.otid.format is.otid.format) refl

identities_again : (all : List Identity) → All IsIdentity all → all ≡ map identity_of (map fields_of all)
identities_again [] h = refl
identities_again (i ∷ all) h = ap (λ (x : Identity). x ∷ all) (identity_again i (first_of i all h)) ∙ ap (λ (xs : List Identity). identity_of (fields_of i) ∷ xs) (identities_again all (others_of i all h))

allowed : (i : Identity) → IsIdentity i → allows_fields (fields_of i) ≡ true
allowed i is =
    let lengths = is.otid.lengths in
    rw (le-leb _ _ is.coord.short, le-leb _ _ is.term.short, lt-ltb _ _ lengths.0, le-leb _ _ lengths.1, le-leb _ _ lengths.2) refl

all_allowed : (all : List Identity) → All IsIdentity all → list_all allows_fields (map fields_of all) ≡ true
all_allowed [] h = refl
all_allowed (i ∷ all) h = rw (allowed i (first_of i all h), all_allowed all (others_of i all h)) refl

values_of : (all : List Identity) → flat_map fields_values (map fields_of all) ≡ flat_map identity_values all
values_of [] = refl
values_of (i ∷ all) = ap (λ (vs : List Value). identity_values i ++ vs) (values_of all)

length_of : (all : List Identity) → length (map fields_of all) ≡ length all
length_of [] = refl
length_of (i ∷ all) = ap suc (length_of all)

parents_values : (all : List Identity) → sequence_values fields_values (map fields_of all) ≡ sequence_values identity_values all
parents_values all = rw (length_of all, values_of all) refl

-- the values fit
identity_fits : (i : Identity) → IsIdentity i → AllFit (identity_values i)
identity_fits i is =
    let lengths = is.otid.lengths in
    let otid : AllFit (otid_values (cast_unsigned w32 i.otid.format) i.otid.bqual i.otid.tid) = (omega (arith, Fits-of_z {w = w32} {z = i.otid.format} is.otid.format), (omega (arith, lengths.1, lengths.2), (omega (arith, lengths.1), tt))) in
    fit-append (reference_values i.coord) (reference_values i.term ++ otid_values (cast_unsigned w32 i.otid.format) i.otid.bqual i.otid.tid) is.coord.fits
    (fit-append (reference_values i.term) (otid_values (cast_unsigned w32 i.otid.format) i.otid.bqual i.otid.tid) is.term.fits otid)

identities_fit : (all : List Identity) → All IsIdentity all → AllFit (flat_map identity_values all)
identities_fit [] h = tt
identities_fit (i ∷ all) h = fit-append (identity_values i) (flat_map identity_values all) (identity_fits i (first_of i all h)) (identities_fit all (others_of i all h))

-- the values of a context
abbrev values : Context → List Value
values c = ULong c.timeout ∷ (identity_values c.current ++ sequence_values identity_values c.parents)

front_is : (w : Writing) (c : Context) → behind_parents w c ≡ with_values w (values c)
unfolding behind_parents behind_current
front_is w c = sym (with_values-append w (ULong c.timeout ∷ identity_values c.current) (sequence_values identity_values c.parents))

-- the octets of its values
abbrev front_octets : Writing → Context → List ℕ
front_octets w c = canonical_all w.order (place_of w) (values c)

front_place : ValuesAreWrittenCanonically → (w : Writing) (c : Context) → place_of (behind_parents w c) ≡ place_of w + length (front_octets w c)
front_place canonically w c =
    let whole : place_of (behind_parents w c) ≡ place_of (with_values w (values c)) = ap place_of (front_is w c) in
    let parts : place_of (with_values w (values c)) ≡ w.start + length (w.octets ++ front_octets w c) = ap place_of (canonically w (values c)) in
    omega (arith, whole, parts, length-append w.octets (front_octets w c))

-- the writer of what stands in front of the tail
pub front_of : (w : Writing) (c : Context) (middle new : Writing) (parents : List Identity) → middle ≡ behind_current w c → parents ≡ c.parents → new ≡ with_values middle (sequence_values identity_values parents) → new ≡ behind_parents w c
unfolding behind_parents
front_of w c middle new parents current same is =
    is ∙ ap (λ (x : Writing). with_values x (sequence_values identity_values parents)) current ∙ ap (λ (xs : List Identity). with_values (behind_current w c) (sequence_values identity_values xs)) same

-- values change neither the order nor the start of a writer
order_behind : (w : Writing) (vs : List Value) → (with_values w vs).order ≡ w.order
order_behind w [] = refl
order_behind w (v ∷ vs) = order_behind (with_value w v) vs

start_behind : (w : Writing) (vs : List Value) → (with_values w vs).start ≡ w.start
start_behind w [] = refl
start_behind w (v ∷ vs) = start_behind (with_value w v) vs

pub front_order : (w : Writing) (c : Context) → (behind_parents w c).order ≡ w.order
front_order w c = ap (λ (x : Writing). x.order) (front_is w c) ∙ order_behind w (values c)

pub front_start : (w : Writing) (c : Context) → (behind_parents w c).start ≡ w.start
front_start w c = ap (λ (x : Writing). x.start) (front_is w c) ∙ start_behind w (values c)

-- what is written
pub record IsWritten (w : Writing) (c : Context) (octets : List ℕ) : Type 0 where
  pub few : length c.parents ≤ 16
  pub stands : can_stand (place_of (behind_parents w c)) c.tail ≡ true
  pub octets_are : (behind_parents w c).octets ++ octets_of_tail (place_of (behind_parents w c)) c.tail ≡ octets

written_is : (w : Writing) (c : Context) (octets : List ℕ) → with_context w c ≡ Ok octets → IsWritten w c octets
unfolding with_context with_tail
written_is start c octets e =
    let w = behind_parents start c in
    let all = w.octets ++ octets_of_tail (place_of w) c.tail in
    let a = guard_ok (ltb 16 (length c.parents)) (TooMany (place_of (behind_current start c))) (with_tail w c.tail) octets e in
    let b = guard_ok (ltb 65536 (length all)) (Cdr (TooLong (place_of w) (length all))) (cond (can_stand (place_of w) c.tail) (Ok all) (Err TailPlace)) octets a.1 in
    let d = check_ok (can_stand (place_of w) c.tail) TailPlace (Ok all) octets b.1 in
    record {
      few = ltb-false _ _ a.0;
      stands = d.0;
      octets_are = ok_is {F = ContextFault} all octets d.1;
    }

-- what is written is read where it stands
read_there : ReferencesAreReadExactly → ReadingLaws → ValuesAreReadAgain → ValuesAreWrittenCanonically → (w : Writing) (c : Context) (octets : List ℕ) → w.order ≡ Big → IsSound c → IsWritten w c octets
    → context_at (standing Big (place_of w) (front_octets w c ++ octets_of_tail (place_of (behind_parents w c)) c.tail)) ≡ Ok c
read_there refs laws again canonically w c octets big sound is =
    let at = place_of w in
    let tail = octets_of_tail (place_of (behind_parents w c)) c.tail in
    let front = canonical_all Big at (values c) in
    let in_order : front_octets w c ≡ front = ap (λ (o : Order). canonical_all o at (values c)) big in
    let few : length c.parents < 4294967296 = omega (arith, is.few) in
    let fit : AllFit (values c) = (sound.timeout, fit-append (identity_values c.current) (sequence_values identity_values c.parents) (identity_fits c.current sound.current) (few, identities_fit c.parents sound.parents)) in
    let read = again Big at (values c) tail fit in
    let place : place_of (behind_parents w c) ≡ at + length front = front_place canonically w c ∙ ap (λ (xs : List ℕ). at + length xs) in_order in
    let behind = standing Big (at + length front) tail in
    let here : tail_at (standing Big (place_of (behind_parents w c)) tail) ≡ c.tail = stand_again laws again (place_of (behind_parents w c)) c.tail is.stands in
    let there : tail_at behind ≡ c.tail = subst (λ (n : ℕ). tail_at (standing Big n tail) ≡ c.tail) place here in
    let stand = subst (λ (vs : List Value). ReadsAll (standing Big at (front ++ tail)) (ULong c.timeout ∷ (identity_values c.current ++ vs)) behind) (sym (parents_values c.parents)) read in
    let found : context_at (standing Big at (front ++ tail)) ≡ Ok c =
    context_at_only refs laws c (fields_of c.current) (map fields_of c.parents) (standing Big at (front ++ tail)) behind (identity_again c.current sound.current) (identities_again c.parents sound.parents) (allowed c.current sound.current) (all_allowed c.parents sound.parents) (omega (arith, length_of c.parents, is.few)) stand (subst (λ (x : AnyTail). IsTail x behind) there (tail_found laws behind)) in
    ap (λ (xs : List ℕ). context_at (standing Big at (xs ++ tail))) in_order ∙ found

pub read_where_written : ReferencesAreReadExactly → ReadingLaws → ValuesAreReadAgain → ValuesAreWrittenCanonically → ContextsAreReadWhereWritten
read_where_written refs laws again canonically w c octets big sound e =
    let is = written_is w c octets e in
    let tail = octets_of_tail (place_of (behind_parents w c)) c.tail in
    let parts : octets ≡ (w.octets ++ front_octets w c) ++ tail = sym is.octets_are ∙ ap (λ (x : Writing). x.octets ++ tail) (front_is w c ∙ canonically w (values c)) in
    (front_octets w c ++ tail, parts ∙ append_assoc w.octets (front_octets w c) tail, read_there refs laws again canonically w c octets big sound is)

pub written_again : ReferencesAreReadExactly → ReadingLaws → ValuesAreReadAgain → ValuesAreWrittenCanonically → WrittenContextsAreReadAgain
unfolding context_in
written_again refs laws again canonically c octets sound e =
    let h = read_where_written refs laws again canonically (begun Big) c octets refl sound e in
    rw h.1 h.2
