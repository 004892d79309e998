-- What refuses a message, and how large it is otherwise.
use Rattle.std.proofs.Common.{◌≡◌, ℕ, ◌+◌, ◌-◌, ◌<◌, ◌≤◌, Bool, true, false, cond, ltb, List, [], ◌∷◌, length, Option, Some, None, Ok, Err, refl, sym, ap, ◌∙◌, arith, length-append}
use Rattle.std.specs.List.{flat_map}
use Rattle.std.proofs.lemmas.Bool.{ltb-false, lt-ltb, le-ltb}
use Rattle.std.proofs.lemmas.List.{length-replicate}
use Rattle.cdr_values.specs.Values.{canonical_all}
use Rattle.giop_frames.specs.declared.fault.FrameFault.{FrameFault}
use Rattle.giop_frames.specs.declared.fault.FrameFault.TheVariants.{TooLarge}
use Rattle.giop_frames.specs.declared.header.Kind.{Kind}
use Rattle.giop_frames.specs.declared.header.Kind.TheVariants as kinds
use Rattle.giop_frames.specs.declared.layout.Version.{Version}
use Rattle.giop_frames.specs.declared.layout.Version.TheVariants.{V1_2}
use Rattle.giop_frames.specs.declared.message.Message.{Message}
use Rattle.giop_frames.specs.declared.message.Message.TheVariants as messages
use Rattle.giop_frames.specs.declared.told.Told.{Told}
use Rattle.giop_frames.specs.Limits.{size_limit}
use Rattle.giop_frames.specs.Layout.{body_alignment, layout, tail_gap}
use Rattle.giop_frames.specs.Message.{kind_of}
use Rattle.giop_frames.specs.Sizes.{end_of}
use Rattle.giop_frames.specs.Encode.{◌or◌, content_of, field_values, fields_of, fields_refusal, octets_in, order_of, padded_body, refusal_of, size_refusal, spelling, tail_at, tail_of, told_of, values_of}
use Rattle.giop_frames.specs.EncodeInside.{Tells, behind_of, fields_told, octets_in_table, octets_told, padded_behind, padding_at, parts_of, unless, values_told}
use Rattle.giop_frames.proofs.Ends.{end_of-is}

-- ---- the size

-- the fields end where their octets do
pub fields_end : (version : Version) (m : Message) → end_of 12 (values_of version m) ≡ 12 + length (fields_of version m)
fields_end version m = end_of-is (order_of m) 12 (values_of version m)

request_tail : (version : Version) (at : ℕ) (body : List ℕ) → padded_body (body_alignment version) at body ≡ padded_behind version kinds.Request at body
request_tail version at [] = refl
request_tail version at (x ∷ xs) = refl

reply_tail : (version : Version) (at : ℕ) (body : List ℕ) → padded_body (body_alignment version) at body ≡ padded_behind version kinds.Reply at body
reply_tail version at [] = refl
reply_tail version at (x ∷ xs) = refl

located_tail : (version : Version) (at : ℕ) (rest : List ℕ) → rest ≡ padded_behind version kinds.LocateReply at rest
located_tail version at [] = refl
located_tail version at (x ∷ xs) = refl

-- what stands behind the fields is padding, and what the message keeps there
pub tail_is : (version : Version) (at : ℕ) (m : Message) → tail_at version at m ≡ padded_behind version (kind_of m) at (behind_of m)
tail_is version at (messages.Request r) = request_tail version at r.body
tail_is version at (messages.Reply r) = reply_tail version at r.body
tail_is version at (messages.Cancel id) = refl
tail_is version at (messages.Locate l) = refl
tail_is version at (messages.LocateReply l) = located_tail version at l.rest
tail_is version at messages.Close = refl
tail_is version at messages.Error = refl

-- the size is counted so
pub size_is : (version : Version) (m : Message) (end : ℕ) → end ≡ end_of 12 (values_of version m)
    → end - 12 + length (padding_at version (kind_of m) end (behind_of m)) + length (behind_of m) ≡ length (content_of version m)
size_is version m end ends =
    let place : end ≡ 12 + length (fields_of version m) = ends ∙ fields_end version m in
    let padding = padding_at version (kind_of m) end (behind_of m) in
    let tail : length (tail_of version m) ≡ length (padded_behind version (kind_of m) end (behind_of m)) =
    ap (λ (k : ℕ). length (tail_at version k m)) (sym place) ∙ ap length (tail_is version end m) in
    omega (arith, place, tail, length-append padding (behind_of m), length-append (fields_of version m) (tail_of version m))

-- what is told of a message ends where its fields do
pub told_ends : (version : Version) (m : Message) (t : Told) (end : ℕ) → Tells t m → end ≡ end_of 12 (flat_map (field_values (fields_told t)) (layout version t.kind)) → end ≡ end_of 12 (values_of version m)
told_ends version m t end h e = rw (h.fields, h.kind) at e

-- and is counted as the message
pub told_size : (version : Version) (m : Message) (t : Told) (end : ℕ) (padding : List ℕ) → Tells t m → end ≡ end_of 12 (values_of version m) → padding ≡ padding_at version t.kind end t.behind.now
    → end - 12 + length padding + length t.behind.now ≡ length (content_of version m)
told_size version m t end padding h ends is =
    let pad : padding ≡ padding_at version (kind_of m) end (behind_of m) = rw (h.kind, h.behind) at is in
    omega (arith, size_is version m end ends, ap length pad, ap length h.behind)

-- and spelled as it
pub spelled_by : (version : Version) (m : Message) (t : Told) (size : ℕ) (octets : List ℕ) → Tells t m → size ≡ length (content_of version m) → octets ≡ fields_of version m
    → parts_of version t size octets ≡ spelling version m
unfolding spelling
spelled_by version m t size octets h is fields = rw (h.kind, h.order, h.behind, is, fields, ← tail_is version (12 + length (fields_of version m)) m) refl

-- the lists of its fields, and what it keeps behind them, are those of the message
lists_are_small : (version : Version) (m : Message) → octets_in_table (told_of m) (layout version (kind_of m)) + length (behind_of m) ≤ octets_in m
lists_are_small V1_2 (messages.Request r) = omega arith
lists_are_small V1_2 (messages.Reply r) = omega arith
lists_are_small V1_2 (messages.Cancel id) = omega arith
lists_are_small V1_2 (messages.Locate l) = omega arith
lists_are_small V1_2 (messages.LocateReply l) = omega arith
lists_are_small V1_2 messages.Close = omega arith
lists_are_small V1_2 messages.Error = omega arith

-- so is what is told of it
pub told_is_small : (version : Version) (m : Message) (t : Told) → Tells t m → octets_told version t ≤ octets_in m
told_is_small version m t h = rw (h.fields, h.kind, h.behind) (lists_are_small version m)

-- padding is short
gap_is_short : (version : Version) (kind : Kind) (at : ℕ) → tail_gap version kind at < 8
gap_is_short V1_2 kinds.Request at = omega arith
gap_is_short V1_2 kinds.Reply at = omega arith
gap_is_short V1_2 kinds.CancelRequest at = omega arith
gap_is_short V1_2 kinds.LocateRequest at = omega arith
gap_is_short V1_2 kinds.LocateReply at = omega arith
gap_is_short V1_2 kinds.CloseConnection at = omega arith
gap_is_short V1_2 kinds.MessageError at = omega arith
gap_is_short V1_2 kinds.Fragment at = omega arith

pub padding_is_short : (version : Version) (kind : Kind) (at : ℕ) (behind : List ℕ) → length (padding_at version kind at behind) < 8
padding_is_short version kind at [] = omega arith
padding_is_short version kind at (x ∷ xs) = omega (arith, length-replicate {A = ℕ} (tail_gap version kind at) 0, gap_is_short version kind at)

-- the octets of the fields are those of the message
pub fields_alike : (version : Version) (m : Message) (t : Told) → Tells t m → canonical_all t.order 12 (values_told version t) ≡ fields_of version m
fields_alike version m t h = rw (h.order, h.fields, h.kind) refl

-- ---- a refusal, or the size

-- a fault of a field refuses the message
pub field_refuses : (version : Version) (m : Message) (fault : FrameFault) → fields_refusal (told_of m) 12 (layout version (kind_of m)) ≡ Some fault → refusal_of version m ≡ Some fault
unfolding refusal_of
field_refuses version m fault refused = ap (λ (r : Option FrameFault). r or size_refusal version m) refused

-- where the fields pass, the size may refuse it
size_refuses : (version : Version) (m : Message) → fields_refusal (told_of m) 12 (layout version (kind_of m)) ≡ None → refusal_of version m ≡ size_refusal version m
unfolding refusal_of
size_refuses version m passes = ap (λ (r : Option FrameFault). r or size_refusal version m) passes

-- a size that is too large
pub too_large : (version : Version) (m : Message) (n : ℕ) → fields_refusal (told_of m) 12 (layout version (kind_of m)) ≡ None → n ≡ length (content_of version m) → size_limit < n
    → refusal_of version m ≡ Some (TooLarge n)
too_large version m n passes is many =
    size_refuses version m passes ∙ ap (λ (k : ℕ). cond (ltb size_limit k) (Some (TooLarge k)) None) (sym is) ∙ ap (λ (b : Bool). cond b (Some (TooLarge n)) None) (lt-ltb size_limit n many)

-- a size that is not
pub fits : (version : Version) (m : Message) (n : ℕ) → fields_refusal (told_of m) 12 (layout version (kind_of m)) ≡ None → n ≡ length (content_of version m) → n ≤ size_limit
    → refusal_of version m ≡ None
fits version m n passes is few =
    size_refuses version m passes ∙ ap (λ (k : ℕ). cond (ltb size_limit k) (Some (TooLarge k)) None) (sym is) ∙ ap (λ (b : Bool). cond b (Some (TooLarge n)) None) (le-ltb size_limit n few)

-- a number is there only where nothing refuses
pub unless_ok : (r : Option FrameFault) (n k : ℕ) → Ok k ≡ unless r n → (r ≡ None) × (k ≡ n)
unless_ok None n k e = (refl, cc)
unless_ok (Some fault) n k e = absurd cc

-- and a fault only where it refuses
pub unless_err : (r : Option FrameFault) (n : ℕ) (fault : FrameFault) → Err fault ≡ unless r n → r ≡ Some fault
unless_err None n fault e = absurd cc
unless_err (Some other) n fault e = cc

-- ---- what is not refused

-- none of two
pub or_none : (a b : Option FrameFault) → (a or b) ≡ None → (a ≡ None) × (b ≡ None)
or_none (Some fault) b e = absurd cc
or_none None b e = (refl, e)

-- a test that did not refuse
pub test_none : (b : Bool) (fault : FrameFault) → cond b (Some fault) None ≡ None → b ≡ false
test_none true fault e = absurd cc
test_none false fault e = refl

-- a message that is not refused is small
pub size_is_small : (version : Version) (m : Message) → refusal_of version m ≡ None → length (content_of version m) ≤ size_limit
unfolding refusal_of
size_is_small version m none =
    ltb-false _ _ (test_none (ltb size_limit (length (content_of version m))) (TooLarge (length (content_of version m))) (or_none (fields_refusal (told_of m) 12 (layout version (kind_of m))) (size_refusal version m) none).1)

-- no field of it passes a limit
pub fields_pass : (version : Version) (m : Message) → refusal_of version m ≡ None → fields_refusal (told_of m) 12 (layout version (kind_of m)) ≡ None
unfolding refusal_of
fields_pass version m none = (or_none (fields_refusal (told_of m) 12 (layout version (kind_of m))) (size_refusal version m) none).0
