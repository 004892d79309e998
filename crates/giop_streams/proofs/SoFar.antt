-- A message whose octets are still coming.
use Rattle.std.proofs.Common.{◌≡◌, ℕ, ◌≤◌, arith, Bool, true, false, cond, ltb, List, ◌++◌, length, None, Result, Ok, Err, refl, sym, subst, ◌∙◌, append_assoc}
use Rattle.std.specs.Prelude.{IsOk}
use Rattle.std.proofs.lemmas.Bool.{le-ltb}
use Rattle.std.proofs.lemmas.List.{length-append}
use Rattle.cdr_values.specs.declared.order.Order.{Order}
use Rattle.cdr_values.specs.Reading.{Reading, ◌>>=◌}
use Rattle.cdr_values.specs.declared.fault.CdrFault.TheVariants as cdr
use Rattle.giop_frames.specs.declared.fault.FrameFault.{FrameFault}
use Rattle.giop_frames.specs.declared.fault.FrameFault.TheVariants as faults
use Rattle.giop_frames.specs.declared.header.Kind.{Kind}
use Rattle.giop_frames.specs.declared.header.Kind.TheVariants as kinds
use Rattle.giop_frames.specs.declared.header.Header.{Header}
use Rattle.giop_frames.specs.declared.walk.Walk.{Walk}
use Rattle.giop_frames.specs.declared.message.Message.{Message}
use Rattle.giop_frames.specs.Header.{is_fragment}
use Rattle.giop_frames.specs.Layout.{Fields, kept_tail, message_with}
use Rattle.giop_frames.specs.Limits.{size_limit}
use Rattle.giop_frames.specs.Content.{message_behind, message_by, message_of, start_by}
use Rattle.giop_frames.specs.Walk.{IsWalked, fields_by, left_at, standing, told_by}
use Rattle.giop_streams.specs.Stream.{Judgement, Unfinished, joined, so_far, whole}
use Rattle.giop_streams.specs.StreamInside.{limited_so_far, wants_octets}

-- a walk is one of more octets, too
pub walked_on : (header : Header) (content octets : List ℕ) (w : Walk) → IsWalked header content w → IsWalked header (content ++ octets) w
walked_on header content octets w is = record {
  behind_header = is.behind_header;
  within = omega (arith, is.within, length-append content octets);
  room = is.room;
  same = λ more.
      subst (λ (x : List ℕ). fields_by header x ≡ left_at w.step w.fields.now (told_by x w.found) (standing header.order x w.place)) (sym (append_assoc content octets more)) (is.same (octets ++ more));
}

-- where the fields are whole, nothing is wrong so far
so_far_whole : (order : Order) (kind : Kind) (told : Fields) (tail : List ℕ) (m : Result Message FrameFault) → is_fragment kind ≡ false → m ≡ message_with order kind told tail → so_far m ≡ Ok None
so_far_whole order kinds.Request told tail m first e = rw e refl
so_far_whole order kinds.Reply told tail m first e = rw e refl
so_far_whole order kinds.CancelRequest told tail m first e = rw e refl
so_far_whole order kinds.LocateRequest told tail m first e = rw e refl
so_far_whole order kinds.LocateReply told tail m first e = rw e refl
so_far_whole order kinds.CloseConnection told tail m first e = rw e refl
so_far_whole order kinds.MessageError told tail m first e = rw e refl
so_far_whole order kinds.Fragment told tail m first e = absurd cc

so_far_read : (header : Header) (read : Result (Fields × Reading) FrameFault) → is_fragment header.kind ≡ false → IsOk read → so_far (read >>= message_behind header.version header.order header.kind) ≡ Ok None
so_far_read header (Ok read) first stands = so_far_whole header.order header.kind read.0 (kept_tail header.version header.kind read.1.place read.1.rest) _ first refl
so_far_read header (Err fault) first stands = absurd cc

pub so_far_done : (header : Header) (content : List ℕ) → is_fragment header.kind ≡ false → IsOk (fields_by header content) → so_far (message_by header content) ≡ Ok None
unfolding message_of
so_far_done header content first stand = so_far_read header (fields_by header content) first stand

-- a fault of the fields is the message's
pub message_fails : (header : Header) (content : List ℕ) (fault : FrameFault) → fields_by header content ≡ Err fault → message_by header content ≡ Err fault
unfolding message_of
message_fails header content fault e = rw e refl

-- want of octets is no fault so far
wanting : (fault : FrameFault) → wants_octets fault ≡ true → so_far (Err fault) ≡ Ok None
wanting (faults.Body place (cdr.Short at)) e = refl
wanting (faults.Body place (cdr.BadBoolean at)) e = absurd cc
wanting (faults.Body place (cdr.BadString at)) e = absurd cc
wanting (faults.Body place (cdr.BadOrder at)) e = absurd cc
wanting (faults.Body place (cdr.TooLong at length)) e = absurd cc
wanting (faults.Body place cdr.Memory) e = absurd cc
wanting faults.BadMagic e = absurd cc
wanting faults.BadVersion e = absurd cc
wanting faults.BadType e = absurd cc
wanting (faults.TooLarge n) e = absurd cc
wanting faults.BadFragment e = absurd cc
wanting faults.Short e = absurd cc
wanting faults.NotWritten e = absurd cc
wanting faults.Memory e = absurd cc

pub so_far_wants : (m : Result Message FrameFault) (fault : FrameFault) → m ≡ Err fault → wants_octets fault ≡ true → so_far m ≡ Ok None
so_far_wants m fault e wants = rw e (wanting fault wants)

-- any other fault is one
failing : (fault : FrameFault) → wants_octets fault ≡ false → so_far (Err fault) ≡ Err fault
failing (faults.Body place (cdr.Short at)) e = absurd cc
failing (faults.Body place (cdr.BadBoolean at)) e = refl
failing (faults.Body place (cdr.BadString at)) e = refl
failing (faults.Body place (cdr.BadOrder at)) e = refl
failing (faults.Body place (cdr.TooLong at length)) e = refl
failing (faults.Body place cdr.Memory) e = refl
failing faults.BadMagic e = refl
failing faults.BadVersion e = refl
failing faults.BadType e = refl
failing (faults.TooLarge n) e = refl
failing faults.BadFragment e = refl
failing faults.Short e = refl
failing faults.NotWritten e = refl
failing faults.Memory e = refl

pub so_far_fails : (m : Result Message FrameFault) (fault : FrameFault) → m ≡ Err fault → wants_octets fault ≡ false → so_far m ≡ Err fault
so_far_fails m fault e wants = rw e (failing fault wants)

-- what octets say that are no more than a message may have
pub limited_is : (header : Header) (octets content : List ℕ) (answer : Judgement) → octets ≡ content → length octets ≤ size_limit → so_far (message_by header octets) ≡ answer → limited_so_far header content ≡ answer
limited_is header octets content answer same few e = subst (λ (x : List ℕ). limited_so_far header x ≡ answer) same (rw (le-ltb size_limit (length octets) few) e)

-- a refusal
abbrev judged_bad : FrameFault → Judgement
judged_bad fault = Err fault

-- what fails so far is a fault of the whole
failed_so_far : (d fault : FrameFault) (wants : Bool) → wants_octets d ≡ wants → so_far (Err d) ≡ Err fault → judged_bad d ≡ Err fault
failed_so_far d fault true w e =
    let both = sym (wanting d w) ∙ e in
    absurd cc
failed_so_far d fault false w e = sym (failing d w) ∙ e

last_fails : (b : Bool) (large : FrameFault) (m : Result Message FrameFault) (place start : ℕ) (header : Header) (fault : FrameFault)
    → cond b (Err large) (so_far m) ≡ Err fault → cond b (Err large) (whole place header start m) ≡ Err fault
last_fails true large m place start header fault e = e
last_fails false large (Ok m) place start header fault e = absurd cc
last_fails false large (Err d) place start header fault e = failed_so_far d fault (wants_octets d) refl e

pub joined_fails : (octets : List ℕ) (u : Unfinished) (fault : FrameFault) → limited_so_far u.header (u.content ++ octets) ≡ Err fault → joined false octets u ≡ Err fault
joined_fails octets u fault e =
    let content = u.content ++ octets in
    last_fails (ltb size_limit (length content)) (faults.TooLarge (length content)) (message_by u.header content) u.place (start_by u.header content) u.header fault e
