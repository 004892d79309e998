-- What is written spells the message.
use Rattle.std.proofs.Common.{◌≡◌, ℕ, ◌+◌, ◌<◌, ◌≤◌, ◌^◌, false, ltb, List, [], ◌∷◌, ◌++◌, length, drop, replicate, None, Ok, refl, sym, ap, subst, ◌∙◌, arith, length-append}
use Rattle.std.specs.List.{flat_map}
use Rattle.std.proofs.lemmas.Bool.{ltb-false}
use Rattle.std.proofs.lemmas.List.{drop_at, length-replicate}
use Rattle.std.proofs.Math.Seq.{drop-nil}
use Rattle.cdr_values.specs.declared.order.Order.{Order}
use Rattle.cdr_values.specs.declared.order.Order.TheVariants.{Big, Little}
use Rattle.cdr_values.specs.Value.{Value, Octet, Boolean, UShort, ULong, ULongLong, OctetSequence, Text, Aligned, gap, octets_of, canonical, Fits, IsNumber}
use Rattle.cdr_values.specs.Values.{SpellsAll, canonical_all, with_values}
use Rattle.cdr_values.specs.Writing.{Writing}
use Rattle.cdr_values.specs.Laws.{CanonicalSpells}
use Rattle.cdr_values.specs.Limits.{length_limit}
use Rattle.giop_frames.specs.declared.header.Header.{Header}
use Rattle.giop_frames.specs.declared.layout.Version.{Version}
use Rattle.giop_frames.specs.declared.layout.Version.TheVariants.{V1_2}
use Rattle.giop_frames.specs.declared.layout.Field.{Field}
use Rattle.giop_frames.specs.declared.layout.Field.TheVariants as fields
use Rattle.giop_frames.specs.declared.message.Message.{Message}
use Rattle.giop_frames.specs.declared.message.Message.TheVariants as messages
use Rattle.giop_frames.specs.declared.message.Target.{Target}
use Rattle.giop_frames.specs.declared.message.Target.TheVariants.{Key, Profile, Reference}
use Rattle.giop_frames.specs.Fault.{too_long}
use Rattle.giop_frames.specs.Header.{IsPart, flags_of, order_of_flags, more_of_flags}
use Rattle.giop_frames.specs.Layout.{Fields, IsField, AreFields, IsTarget, blank, body_alignment, kept_tail, layout, message_with}
use Rattle.giop_frames.specs.Message.{IsMessage, IsContent, kind_of}
use Rattle.giop_frames.specs.Sizes.{end_of}
use Rattle.giop_frames.specs.Encode.{content_of, field_refusal, field_values, fields_of, fields_refusal, order_of, padded_body, refusal_of, spelling, tail_of, target_refusal, target_values, told_of, values_of}
use Rattle.giop_frames.specs.EncodeInside.{unwritten}
use Rattle.giop_frames.specs.Put.{IsPlain, ArePlain}
use Rattle.giop_frames.specs.Limits.{context_limit, key_limit, size_limit}
use Rattle.giop_frames.proofs.Ends.{value_size}
use Rattle.giop_frames.proofs.Putting.{with_values-is}
use Rattle.giop_frames.proofs.Refused.{fields_pass, or_none, size_is_small, test_none}

-- ---- the fields

-- what was written there is their octets
pub fields_written : (order : Order) (values : List Value) → (with_values (unwritten order) values).octets ≡ canonical_all order 12 values
fields_written order values = ap (λ (w : Writing). w.octets) (with_values-is (unwritten order) values)

-- ---- values

-- what is plain and not too long fits
fits_from : (order : Order) (at : ℕ) (value : Value) → IsPlain value → length (canonical order at value) ≤ length_limit → Fits value
fits_from order at (Octet n) plain short = plain
fits_from order at (Boolean b) plain short = tt
fits_from order at (UShort n) plain short = plain
fits_from order at (ULong n) plain short = plain
fits_from order at (ULongLong n) plain short = plain
fits_from order at (OctetSequence octets) plain short = omega (arith, short, value_size order at (OctetSequence octets))
fits_from order at (Text text) plain short = (omega (arith, short, value_size order at (Text text)), plain)
fits_from order at (Aligned n) plain short = tt

-- the octets of values spell them
spells_all : CanonicalSpells → (order : Order) (at : ℕ) (values : List Value) → ArePlain values → length (canonical_all order at values) ≤ length_limit → SpellsAll order at values (canonical_all order at values)
spells_all law order at [] plain short = refl
spells_all law order at (x ∷ xs) plain short =
    let one = canonical order at x in
    let rest = canonical_all order (at + length one) xs in
    let sum = length-append one rest in
    (one, rest, refl, law order at x (fits_from order at x plain.0 (omega (arith, sum, short))), spells_all law order (at + length one) xs plain.1 (omega (arith, sum, short)))

-- ---- the header

-- a list of no length
no_items : (xs : List ℕ) → length xs ≡ 0 → xs ≡ []
no_items [] e = refl
no_items (x ∷ xs) e = absurd (omega arith)

-- the octets of a number read as the number
number_spells : CanonicalSpells → (order : Order) (n : ℕ) → n < 2 ^ 32 → IsNumber order 4 n (octets_of order 4 n)
number_spells law order n lt =
    let s = law order 0 (ULong n) lt in
    let bare : s.bare ≡ octets_of order 4 n = ap (λ (x : List ℕ). x ++ s.bare) (sym (no_items s.padding s.aligned)) ∙ sym s.parts in
    subst (IsNumber order 4 n) bare s.is_bare

-- the flags tell the byte order
order_again : (order : Order) → order_of_flags (flags_of order) ≡ order
order_again Big = refl
order_again Little = refl

-- the flags tell that nothing follows
no_more : (version : Version) (order : Order) → more_of_flags version (flags_of order) ≡ false
no_more V1_2 Big = refl
no_more V1_2 Little = refl

-- the header of a message that isn't fragmented
abbrev header_for : Version → Message → Header
header_for version m = record { version = version; order = order_of m; more = false; kind = kind_of m; size = length (content_of version m) }

-- what is written is one part
part : CanonicalSpells → (version : Version) (m : Message) → length (content_of version m) ≤ size_limit → IsPart (header_for version m) (content_of version m) (spelling version m)
unfolding spelling
part law version m short = record {
  flags = flags_of (order_of m);
  size = octets_of (order_of m) 4 (length (content_of version m));
  parts = refl;
  order_bit = order_again (order_of m);
  more_bit = no_more version (order_of m);
  sized = number_spells law (order_of m) (length (content_of version m)) (omega (arith, short));
  counted = refl;
  few = short;
}

-- ---- the content

-- its fields are spelled
fields_spelled : CanonicalSpells → (version : Version) (m : Message) → ArePlain (values_of version m) → length (content_of version m) ≤ size_limit → SpellsAll (order_of m) 12 (values_of version m) (fields_of version m)
fields_spelled law version m plain short = spells_all law (order_of m) 12 (values_of version m) plain (omega (arith, short, length-append (fields_of version m) (tail_of version m)))

-- a body stands behind its padding
body_again : (n at : ℕ) (body : List ℕ) → body ≡ drop (gap n at) (padded_body n at body)
body_again n at [] = sym (drop-nil (gap n at))
body_again n at (x ∷ xs) = sym (drop_at (replicate (gap n at) 0) (x ∷ xs) (gap n at) (length-replicate (gap n at) 0))

-- a target that is not refused is spelled as a key
target_is : (at : ℕ) (target : Target) → target_refusal at target ≡ None → IsTarget target (target_values target)
target_is at (Key key) none = (refl, ltb-false _ _ (test_none (ltb key_limit (length key)) (too_long (end_of at (UShort 0 ∷ [])) (length key)) none))
target_is at Profile none = absurd cc
target_is at Reference none = absurd cc

-- one field is told as these fields have it
abbrev with_field : Field → Fields → Fields → Fields
with_field fields.Id f old = record old { id = f.id }
with_field fields.Flags f old = record old { flags = f.flags }
with_field fields.Reserved f old = old
with_field fields.Status f old = record old { status = f.status }
with_field fields.Target f old = record old { target = f.target }
with_field fields.Operation f old = record old { operation = f.operation }
with_field fields.Contexts f old = record old { contexts = f.contexts }

-- so are the fields of a table
abbrev with_fields : List Field → Fields → Fields → Fields
with_fields [] f old = old
with_fields (one ∷ others) f old = with_fields others f (with_field one f old)

-- what is written for a field is that field
field_told : (one : Field) (f old : Fields) (at : ℕ) → field_refusal f at one ≡ None → IsField one old (with_field one f old) (field_values f one)
field_told fields.Id f old at none = (f.id, refl, refl)
field_told fields.Flags f old at none = (f.flags, refl, refl)
field_told fields.Reserved f old at none = (0, refl, refl)
field_told fields.Status f old at none = (f.status, refl, refl)
field_told fields.Target f old at none = (f.target, refl, target_is at f.target none)
field_told fields.Operation f old at none = (f.operation, refl, refl)
field_told fields.Contexts f old at none = (f.contexts, refl, ltb-false _ _ (test_none (ltb context_limit (length f.contexts)) (too_long at (length f.contexts)) none), refl)

-- and for the fields of a table these fields
fields_told : (table : List Field) (f old : Fields) (at : ℕ) → fields_refusal f at table ≡ None → AreFields table old (with_fields table f old) (flat_map (field_values f) table)
fields_told [] f old at none = (refl, refl)
fields_told (one ∷ others) f old at none =
    let next = end_of at (field_values f one) in
    let between = with_field one f old in
    let p = or_none (field_refusal f at one) (fields_refusal f next others) none in
    (between, field_values f one, flat_map (field_values f) others, refl, field_told one f old at p.0, fields_told others f between next p.1)

-- a table tells all that a message has
all_told : (version : Version) (m : Message) → with_fields (layout version (kind_of m)) (told_of m) blank ≡ told_of m
all_told V1_2 (messages.Request r) = refl
all_told V1_2 (messages.Reply r) = refl
all_told V1_2 (messages.Cancel id) = refl
all_told V1_2 (messages.Locate l) = refl
all_told V1_2 (messages.LocateReply l) = refl
all_told V1_2 messages.Close = refl
all_told V1_2 messages.Error = refl

-- what is written for the fields of a message is these fields
told : (version : Version) (m : Message) → refusal_of version m ≡ None → AreFields (layout version (kind_of m)) blank (told_of m) (values_of version m)
told version m none =
    let table = layout version (kind_of m) in
    subst (λ (f : Fields). AreFields table blank f (values_of version m)) (all_told version m) (fields_told table (told_of m) blank 12 (fields_pass version m none))

-- the message is made of them
made : (version : Version) (m : Message) → message_with (order_of m) (kind_of m) (told_of m) (kept_tail version (kind_of m) (12 + length (fields_of version m)) (tail_of version m)) ≡ Ok m
made version (messages.Request r) = ap (λ (x : List ℕ). Ok (messages.Request (record r { body = x }))) (sym (body_again (body_alignment version) (12 + length (fields_of version (messages.Request r))) r.body))
made version (messages.Reply r) = ap (λ (x : List ℕ). Ok (messages.Reply (record r { body = x }))) (sym (body_again (body_alignment version) (12 + length (fields_of version (messages.Reply r))) r.body))
made version (messages.Cancel id) = refl
made version (messages.Locate l) = refl
made version (messages.LocateReply l) = refl
made version messages.Close = refl
made version messages.Error = refl

-- what stands behind the header is the content
content_is : CanonicalSpells → (version : Version) (m : Message) → refusal_of version m ≡ None → ArePlain (values_of version m) → IsContent version (order_of m) m (content_of version m)
content_is law version m none plain = record {
  told = told_of m;
  values = values_of version m;
  fields = fields_of version m;
  tail = tail_of version m;
  parts = refl;
  spelled = fields_spelled law version m plain (size_is_small version m none);
  are_fields = told version m none;
  made = made version m;
}

-- what is written for a message that is not refused is that message
pub spelled : CanonicalSpells → (version : Version) (m : Message) → refusal_of version m ≡ None → ArePlain (values_of version m) → IsMessage (version ∷ []) m (spelling version m)
spelled law version m none plain = record {
  header = header_for version m;
  content = content_of version m;
  part = part law version m (size_is_small version m none);
  admitted = (0, omega arith, refl);
  whole = refl;
  kind = refl;
  is_content = content_is law version m none plain;
}
