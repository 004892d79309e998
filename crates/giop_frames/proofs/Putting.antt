-- Values that were put into a sink one after another.
use Rattle.std.proofs.Common.{◌≡◌, ℕ, ◌+◌, ◌<◌, Some, None, Option, List, [], ◌∷◌, ◌++◌, length, get_or, take, drop, refl, sym, ap, subst, ◌∙◌, append_assoc, arith, length-append}
use Rattle.std.specs.List.{flat_map}
use Rattle.std.proofs.lemmas.List.{append-nil, drop_more}
use Rattle.cdr_values.specs.declared.order.Order.{Order}
use Rattle.cdr_values.specs.Value.{Value, ULong, OctetSequence, canonical}
use Rattle.cdr_values.specs.Values.{canonical_all, with_values}
use Rattle.cdr_values.specs.Writing.{Writing, place_of, with_value}
use Rattle.giop_frames.specs.declared.fault.FrameFault.{FrameFault}
use Rattle.giop_frames.specs.declared.layout.Field.{Field}
use Rattle.giop_frames.specs.declared.sink.Sink.{Sink}
use Rattle.giop_frames.specs.declared.message.ServiceContext.{ServiceContext}
use Rattle.giop_frames.specs.Layout.{Fields, context_values}
use Rattle.giop_frames.specs.Encode.{◌or◌, field_refusal, field_values, fields_refusal}
use Rattle.giop_frames.specs.Put.{ArePlain, HasPut, IsPut}
use Rattle.giop_frames.specs.Sizes.{end_of}
use Rattle.giop_frames.proofs.Ends.{end_of-append, values_more}

-- values behind others
with_values-append : (w : Writing) (xs ys : List Value) → with_values w (xs ++ ys) ≡ with_values (with_values w xs) ys
with_values-append w [] ys = refl
with_values-append w (x ∷ xs) ys = with_values-append (with_value w x) xs ys

-- a writing with these octets
abbrev writing : Order → ℕ → List ℕ → Writing
writing order start octets = record { order = order; start = start; octets = octets }

-- the octets of the values stand behind those that were there
pub with_values-is : (w : Writing) (values : List Value) → with_values w values ≡ writing w.order w.start (w.octets ++ canonical_all w.order (place_of w) values)
with_values-is w [] = ap (writing w.order w.start) (sym (append-nil w.octets))
with_values-is w (x ∷ xs) =
    let one = canonical w.order (place_of w) x in
    let place : place_of (with_value w x) ≡ place_of w + length one = omega (arith, length-append w.octets one) in
    with_values-is (with_value w x) xs ∙ ap (writing w.order w.start) (ap (λ (k : ℕ). (w.octets ++ one) ++ canonical_all w.order k xs) place ∙ append_assoc w.octets one (canonical_all w.order (place_of w + length one) xs))

-- ---- a sink

-- values of two lists
plain-append : (xs ys : List Value) → ArePlain xs → ArePlain ys → ArePlain (xs ++ ys)
plain-append [] ys p q = q
plain-append (x ∷ xs) ys p q = (p.0, plain-append xs ys p.1 q)

written_then : (xs ys : List Value) (a b c : Option Writing) → IsPut xs a b → IsPut ys b c → IsPut (xs ++ ys) a c
written_then xs ys a b None p q = tt
written_then xs ys a None (Some w) p q = absurd q
written_then xs ys None (Some v) (Some w) p q = absurd p
written_then xs ys (Some u) (Some v) (Some w) p q = (q.0 ∙ ap (λ (x : Writing). with_values x ys) p.0 ∙ sym (with_values-append u xs ys), plain-append xs ys p.1 q.1)

nothing_written : (w : Option Writing) → IsPut [] w w
nothing_written None = tt
nothing_written (Some w) = (refl, tt)

-- nothing was put
pub put_nothing : (s : Sink) → HasPut [] s s
put_nothing s = record { end = refl; written = nothing_written s.writer }

-- values, and then more of them
pub put_then : (xs ys : List Value) (a b c : Sink) → HasPut xs a b → HasPut ys b c → HasPut (xs ++ ys) a c
put_then xs ys a b c p q = record {
  end = q.end ∙ ap (λ (at : ℕ). end_of at ys) p.end ∙ sym (end_of-append a.end xs ys);
  written = written_then xs ys a.writer b.writer c.writer p.written q.written;
}

-- the values of a context
pub put_two : (a b c : Sink) (context : ServiceContext) (octets : List ℕ) → octets ≡ context.bytes → HasPut (ULong context.id ∷ []) a b → HasPut (OctetSequence octets ∷ []) b c → HasPut (context_values context) a c
put_two a b c context octets is id bytes = put_then (ULong context.id ∷ []) (OctetSequence context.bytes ∷ []) a b c id (subst (λ (x : List ℕ). HasPut (OctetSequence x ∷ []) b c) is bytes)

-- the values of one more thing
pub put_more : {X : Type 0} (values : X → List Value) (a b c : Sink) (xs : List X) (i : ℕ) (x : X) → i < length xs → x ≡ get_or xs i x
    → HasPut (flat_map values (take i xs)) a b → HasPut (values x) b c → HasPut (flat_map values (take (i + 1) xs)) a c
put_more values a b c xs i x lt is so_far more = subst (λ (vs : List Value). HasPut vs a c) (sym (values_more values xs i x lt is)) (put_then (flat_map values (take i xs)) (values x) a b c so_far more)

-- ---- refusals among fields

first_then : (fault : Option FrameFault) (f : Fields) (at : ℕ) (one : Field) (others : List Field) → field_refusal f at one ≡ fault
    → fields_refusal f at (one ∷ others) ≡ (fault or fields_refusal f (end_of at (field_values f one)) others)
first_then fault f at one others e = ap (λ (r : Option FrameFault). r or fields_refusal f (end_of at (field_values f one)) others) e

left : (items : List Field) (i : ℕ) (one : Field) → i < length items → one ≡ get_or items i one → drop i items ≡ one ∷ drop (i + 1) items
left items i one lt is = drop_more items i one lt ∙ ap (λ (x : Field). x ∷ drop (i + 1) items) (sym is)

-- the first fault is that of all
pub refuses : (f : Fields) (at : ℕ) (items : List Field) (i : ℕ) (one : Field) (fault : FrameFault) (whole : Option FrameFault) → i < length items → one ≡ get_or items i one
    → fields_refusal f at (drop i items) ≡ whole → field_refusal f at one ≡ Some fault → whole ≡ Some fault
refuses f at items i one fault whole lt is so_far refused =
    sym so_far ∙ ap (fields_refusal f at) (left items i one lt is) ∙ first_then (Some fault) f at one (drop (i + 1) items) refused

-- behind a field that passes the others are left
pub passes : (f : Fields) (at next : ℕ) (items : List Field) (i : ℕ) (one : Field) (whole : Option FrameFault) → i < length items → one ≡ get_or items i one
    → fields_refusal f at (drop i items) ≡ whole → field_refusal f at one ≡ None → next ≡ end_of at (field_values f one) → fields_refusal f next (drop (i + 1) items) ≡ whole
passes f at next items i one whole lt is so_far passed ends =
    ap (λ (k : ℕ). fields_refusal f k (drop (i + 1) items)) ends ∙ sym (first_then None f at one (drop (i + 1) items) passed) ∙ ap (fields_refusal f at) (sym (left items i one lt is)) ∙ so_far
