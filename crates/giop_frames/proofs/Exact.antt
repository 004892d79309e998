-- Fields one after another, whatever the table: what is read is spelled so, and what is spelled so is read.
use Rattle.std.proofs.Common.{◌≡◌, ℕ, ◌+◌, List, [], ◌∷◌, ◌++◌, length, Result, Ok, refl, sym, ap, subst, ◌∙◌}
use Rattle.cdr_values.specs.declared.order.Order.{Order}
use Rattle.cdr_values.specs.declared.fault.CdrFault.{CdrFault}
use Rattle.cdr_values.specs.Value.{Value, Octet, ULong, Text}
use Rattle.cdr_values.specs.Reading.{Reading, ◌>>=◌, octet_at, ulong_at, string_at}
use Rattle.cdr_values.specs.Values.{ReadsAll}
use Rattle.cdr_values.specs.Laws.{ReadsExactly}
use Rattle.giop_frames.specs.declared.fault.FrameFault.{FrameFault}
use Rattle.giop_frames.specs.declared.header.Kind.{Kind}
use Rattle.giop_frames.specs.declared.header.Kind.TheVariants as kinds
use Rattle.giop_frames.specs.declared.layout.Version.{Version}
use Rattle.giop_frames.specs.declared.layout.Field.{Field}
use Rattle.giop_frames.specs.declared.layout.Field.TheVariants as fields
use Rattle.giop_frames.specs.declared.message.Message.{Message}
use Rattle.giop_frames.specs.declared.message.Message.TheVariants as messages
use Rattle.giop_frames.specs.Fault.{field}
use Rattle.giop_frames.specs.Layout.{Fields, IsField, AreFields, blank, contexts_values, kept_tail, layout, message_with, tail_start}
use Rattle.giop_frames.specs.Message.{IsContent, kind_of}
use Rattle.giop_frames.specs.ContentInside.{FieldLaws}
use Rattle.giop_frames.specs.Content.{target_at, contexts_at, field_at, fields_at, fields_in, front_of, message_behind, message_of, start_of}
use Rattle.giop_frames.proofs.Given.{ok_is, read_is, bind_ok, field_ok}
use Rattle.giop_frames.proofs.Spelled.{reads_then, reads_apart, after, reads_spelled, passed}
use Rattle.giop_frames.proofs.FieldsRead.{target_found, target_only, contexts_found, contexts_only}

-- ---- a field of one value

-- one value that is read, and what it tells
abbrev one_at : {A : Type 0} → (Reading → Result (A × Reading) CdrFault) → (A → Fields) → Reading → Result (Fields × Reading) FrameFault
one_at read tell r = field (read r) >>= λ x. Ok (tell x.0, x.1)

one_found : {A : Type 0} (read : Reading → Result (A × Reading) CdrFault) (value : A → Value) (tell : A → Fields) → ReadsExactly read value → (r : Reading) (new : Fields) (behind : Reading) → one_at read tell r ≡ Ok (new, behind)
    → (x : A) × (new ≡ tell x) × ReadsAll r (value x ∷ []) behind
one_found read value tell exact r new behind e =
    let a = field_ok (read r) _ (new, behind) e in
    let same = read_is (tell a.0.0) a.0.1 new behind a.2 in
    (a.0.0, sym same.0, (a.0.1, exact.found r a.0.0 a.0.1 a.1, same.2))

one_only : {A : Type 0} (read : Reading → Result (A × Reading) CdrFault) (value : A → Value) (tell : A → Fields) → ReadsExactly read value → (r : Reading) (x : A) (new : Fields) (values : List Value) (behind : Reading) → new ≡ tell x
    → values ≡ value x ∷ [] → ReadsAll r values behind → one_at read tell r ≡ Ok (new, behind)
one_only read value tell exact r x new values behind told spelled h =
    let k : ReadsAll r (value x ∷ []) behind = subst (λ (v : List Value). ReadsAll r v behind) spelled h in
    let one : one_at read tell r ≡ Ok (tell x, k.0) = rw (exact.only r x k.0 k.1) refl in
    one ∙ ap (λ (b : Reading). Ok (tell x, b)) (sym k.2) ∙ ap (λ (f : Fields). Ok (f, behind)) (sym told)

-- ---- a field

-- a field that is read stands there
field_found : FieldLaws → (one : Field) (old : Fields) (r : Reading) (new : Fields) (behind : Reading) → field_at one old r ≡ Ok (new, behind) → (values : List Value) × IsField one old new values × ReadsAll r values behind
unfolding field_at
field_found laws fields.Id old r new behind e =
    let a = one_found ulong_at ULong (λ id. record old { id = id }) laws.values.ulong r new behind e in
    (ULong a.0 ∷ [], (a.0, a.1, refl), a.2)
field_found laws fields.Flags old r new behind e =
    let a = one_found octet_at Octet (λ flags. record old { flags = flags }) laws.values.octet r new behind e in
    (Octet a.0 ∷ [], (a.0, a.1, refl), a.2)
field_found laws fields.Reserved old r new behind e =
    let a = one_found octet_at Octet (λ octet. old) laws.values.octet r new behind e in
    (Octet a.0 ∷ [], (a.0, a.1, refl), a.2)
field_found laws fields.Status old r new behind e =
    let a = one_found ulong_at ULong (λ status. record old { status = status }) laws.values.ulong r new behind e in
    (ULong a.0 ∷ [], (a.0, a.1, refl), a.2)
field_found laws fields.Target old r new behind e =
    let a = bind_ok (target_at r) _ (new, behind) e in
    let same = read_is (record old { target = a.0.0 }) a.0.1 new behind a.2 in
    let p = target_found laws r a.0.0 a.0.1 a.1 in
    (p.0, (a.0.0, sym same.0, p.1), subst (λ (s : Reading). ReadsAll r p.0 s) same.1 p.2)
field_found laws fields.Operation old r new behind e =
    let a = one_found string_at Text (λ name. record old { operation = name }) laws.values.string r new behind e in
    (Text a.0 ∷ [], (a.0, a.1, refl), a.2)
field_found laws fields.Contexts old r new behind e =
    let a = bind_ok (contexts_at r) _ (new, behind) e in
    let same = read_is (record old { contexts = a.0.0 }) a.0.1 new behind a.2 in
    let p = contexts_found laws r a.0.0 a.0.1 a.1 in
    (contexts_values a.0.0, (a.0.0, sym same.0, p.0, refl), subst (λ (s : Reading). ReadsAll r (contexts_values a.0.0) s) same.1 p.1)

-- and a field that stands there is read
field_only : FieldLaws → (one : Field) (old new : Fields) (values : List Value) (r behind : Reading) → IsField one old new values → ReadsAll r values behind → field_at one old r ≡ Ok (new, behind)
unfolding field_at
field_only laws fields.Id old new values r behind is h = one_only ulong_at ULong (λ id. record old { id = id }) laws.values.ulong r is.0 new values behind is.1 is.2 h
field_only laws fields.Flags old new values r behind is h = one_only octet_at Octet (λ flags. record old { flags = flags }) laws.values.octet r is.0 new values behind is.1 is.2 h
field_only laws fields.Reserved old new values r behind is h = one_only octet_at Octet (λ octet. old) laws.values.octet r is.0 new values behind is.1 is.2 h
field_only laws fields.Status old new values r behind is h = one_only ulong_at ULong (λ status. record old { status = status }) laws.values.ulong r is.0 new values behind is.1 is.2 h
field_only laws fields.Target old new values r behind is h = rw (target_only laws is.0 values r behind is.2 h) (ap (λ (f : Fields). Ok (f, behind)) (sym is.1))
field_only laws fields.Operation old new values r behind is h = one_only string_at Text (λ name. record old { operation = name }) laws.values.string r is.0 new values behind is.1 is.2 h
field_only laws fields.Contexts old new values r behind is h =
    let k : ReadsAll r (contexts_values is.0) behind = subst (λ (v : List Value). ReadsAll r v behind) is.3 h in
    rw (contexts_only laws r is.0 behind is.2 k) (ap (λ (f : Fields). Ok (f, behind)) (sym is.1))

-- ---- fields

-- fields that are read stand there
pub fields_found : FieldLaws → (table : List Field) (old : Fields) (r : Reading) (new : Fields) (behind : Reading) → fields_at table old r ≡ Ok (new, behind) → (values : List Value) × AreFields table old new values × ReadsAll r values behind
fields_found laws [] old r new behind e =
    let same = read_is old r new behind e in
    ([], (sym same.0, refl), same.2)
fields_found laws (one ∷ others) old r new behind e =
    let a = bind_ok (field_at one old r) _ (new, behind) e in
    let p = field_found laws one old r a.0.0 a.0.1 a.1 in
    let q = fields_found laws others a.0.0 a.0.1 new behind a.2 in
    (p.0 ++ q.0, (a.0.0, p.0, q.0, refl, p.1, q.1), reads_then p.0 q.0 r a.0.1 behind p.2 q.2)

-- and fields that stand there are read
pub fields_only : FieldLaws → (table : List Field) (old new : Fields) (values : List Value) (r behind : Reading) → AreFields table old new values → ReadsAll r values behind → fields_at table old r ≡ Ok (new, behind)
fields_only laws [] old new values r behind is h =
    let k : behind ≡ r = subst (λ (v : List Value). ReadsAll r v behind) is.1 h in
    ap (λ (f : Fields). Ok (f, r)) (sym is.0) ∙ ap (λ (b : Reading). Ok (new, b)) (sym k)
fields_only laws (one ∷ others) old new values r behind is h =
    let k : ReadsAll r (is.1 ++ is.2) behind = subst (λ (v : List Value). ReadsAll r v behind) is.3 h in
    let m = reads_apart is.1 is.2 r behind k in
    rw (field_only laws one old is.0 is.1 r m.0 is.4 m.1) (fields_only laws others is.0 new is.2 m.0 behind is.5 m.2)

-- ---- messages

-- a message is of the kind that its fields were read for
kind_is : (order : Order) (kind : Kind) (told : Fields) (tail : List ℕ) (m : Message) → message_with order kind told tail ≡ Ok m → kind ≡ kind_of m
kind_is order kinds.Request told tail m e = ap kind_of (ok_is _ m e)
kind_is order kinds.Reply told tail m e = ap kind_of (ok_is _ m e)
kind_is order kinds.CancelRequest told tail m e = ap kind_of (ok_is (messages.Cancel told.id) m e)
kind_is order kinds.LocateRequest told tail m e = ap kind_of (ok_is _ m e)
kind_is order kinds.LocateReply told tail m e = ap kind_of (ok_is _ m e)
kind_is order kinds.CloseConnection told tail m e = ap kind_of (ok_is messages.Close m e)
kind_is order kinds.MessageError told tail m e = ap kind_of (ok_is messages.Error m e)
kind_is order kinds.Fragment told tail m e = absurd cc

-- the message that is read has this content
pub content_found : FieldLaws → (version : Version) (order : Order) (kind : Kind) (content : List ℕ) (m : Message) → message_of version order kind content ≡ Ok m → (kind ≡ kind_of m) × IsContent version order m content
unfolding message_of
content_found laws version order kind content m e =
    let r = front_of order content in
    let a = bind_ok (fields_in version order kind content) (message_behind version order kind) m e in
    let p = fields_found laws (layout version kind) blank r a.0.0 a.0.1 a.1 in
    let q = passed p.0 r a.0.1 p.2 in
    let tail = a.0.1.rest in
    let made = subst (λ (place : ℕ). message_with order kind a.0.0 (kept_tail version kind place tail) ≡ Ok m) q.place a.2 in
    let kind_same = kind_is order kind a.0.0 _ m made in
    let P : Kind → Type 0 = λ k. AreFields (layout version k) blank a.0.0 p.0 × (message_with order k a.0.0 (kept_tail version k (12 + length q.octets) tail) ≡ Ok m) in
    let both = subst P kind_same (p.1, made) in
    (kind_same, record { told = a.0.0; values = p.0; fields = q.octets; tail = tail; parts = q.front; spelled = q.spelled; are_fields = both.0; made = both.1 })

-- the fields of a message with this content are read
content_read : FieldLaws → (version : Version) (order : Order) (m : Message) (content : List ℕ) (is : IsContent version order m content) → fields_in version order (kind_of m) content ≡ Ok (is.told, after (front_of order content) is.fields is.tail)
content_read laws version order m content is =
    let r = front_of order content in
    fields_only laws (layout version (kind_of m)) blank is.told is.values r (after r is.fields is.tail) is.are_fields (reads_spelled is.values r is.fields is.tail is.spelled is.parts)

-- the message with this content is read
pub content_only : FieldLaws → (version : Version) (order : Order) (m : Message) (content : List ℕ) → IsContent version order m content → message_of version order (kind_of m) content ≡ Ok m
unfolding message_of
content_only laws version order m content is = rw (content_read laws version order m content is) is.made

-- what it keeps begins behind the fields
pub start_only : FieldLaws → (version : Version) (order : Order) (m : Message) (content : List ℕ) (is : IsContent version order m content) → start_of version order (kind_of m) content ≡ tail_start version (kind_of m) (12 + length is.fields)
unfolding start_of
start_only laws version order m content is = rw (content_read laws version order m content is) refl
