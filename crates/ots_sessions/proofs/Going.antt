-- How a session goes on from message to message, and how it ends.
use Rattle.std.proofs.Common.{◌∙◌, ◌≡◌, ◌≢◌, ◌⊎◌, ◌∷◌, ◌++◌, inl, inr, refl, sym, subst, ap, ℕ, Bool, false, List, [], Option, Some, None, Ok, Err}
use Rattle.std.proofs.lemmas.List.{append-nil}
use Rattle.giop_frames.specs.Encode.{spelling}
use Rattle.giop_frames.specs.Header.{profile_versions}
use Rattle.giop_frames.specs.declared.fault.FrameFault.{FrameFault}
use Rattle.giop_frames.specs.declared.fault.FrameFault.TheVariants.{Memory, TooLarge}
use Rattle.giop_frames.specs.declared.layout.Version.TheVariants.{V1_2}
use Rattle.giop_frames.specs.declared.message.Locate.{Locate}
use Rattle.giop_frames.specs.declared.message.Located.{Located}
use Rattle.giop_frames.specs.declared.message.Message.{Message}
use Rattle.giop_frames.specs.declared.message.Message.TheVariants as messages
use Rattle.giop_frames.specs.declared.message.Reply.{Reply}
use Rattle.giop_frames.specs.declared.message.Request.{Request}
use Rattle.giop_streams.specs.Held.{GivesNext, HasGiven, HasGivenAll, HasKept, Held, Holds, IsRefusedAtPlace}
use Rattle.giop_streams.specs.Stream.{IsBegun, IsRefused}
use Rattle.giop_streams.specs.declared.framed.Framed.{Framed}
use Rattle.ior_refs.specs.declared.key.ObjectKey.{ObjectKey}
use Rattle.ots_calls.specs.declared.answer.Answer.{Answer}
use Rattle.ots_calls.specs.declared.call.Called.{Called}
use Rattle.ots_outside.specs.Sink.{TakesPart}
use Rattle.ots_sessions.specs.Replies.{IsReply}
use Rattle.ots_sessions.specs.Sessions.{IsLocated, Serves, ServesAll, Sides, Tears, one_more}
use Rattle.ots_sessions.specs.SessionsInside.{EndsAt, EndsGoing, GoesOn, IsGoing, IsOfFault, IsToldSo, IsTorn, IsUnwritten}
use Rattle.ots_sessions.specs.Short.{is_short}
use Rattle.ots_sessions.specs.declared.session.SessionEnd.{SessionEnd}
use Rattle.ots_sessions.specs.declared.session.SessionEnd.TheVariants as ends

trans : {A : Type 0} {x y z : A} → x ≡ y → y ≡ z → x ≡ z
trans p q = p ∙ q

-- what a stream holds has its messages first
pub begun : (octets : List ℕ) (read : List Framed) (h : Held) → Holds profile_versions octets read h → IsBegun profile_versions read octets
begun octets read h holds = record { parts = holds.parts; rest = h.rest; splits = holds.splits }

-- nothing was written
pub untorn : (taken : Option (List ℕ)) → IsTorn taken taken
untorn None = ([], tt)
untorn (Some octets) = ([], (0, ap (λ (x : List ℕ). Some x) (sym (append-nil octets))))

pub torn_by : (part : List ℕ) (before after : Option (List ℕ)) → TakesPart before part after → IsTorn before after
torn_by part before after torn = (part, torn)

-- ---- what wasn't written

pub told_unwritten : (end : SessionEnd) (before after : Option (List ℕ)) (writes : ℕ × ℕ)
    → IsUnwritten end (spelling V1_2 messages.Error) before after writes → IsToldSo end before after writes
told_unwritten ends.Closed before after writes never = absurd never
told_unwritten ends.Cut before after writes never = absurd never
told_unwritten (ends.Refused fault) before after writes never = absurd never
told_unwritten ends.ReadFault before after writes never = absurd never
told_unwritten ends.WriteFault before after writes h = h
told_unwritten ends.Memory before after writes h = h

pub of_unwritten : (end : SessionEnd) (fault : FrameFault) (octets : List ℕ) (before after : Option (List ℕ)) (writes : ℕ × ℕ)
    → fault ≢ Memory → IsUnwritten end octets before after writes → IsOfFault end fault
of_unwritten ends.Closed fault octets before after writes other never = absurd never
of_unwritten ends.Cut fault octets before after writes other never = absurd never
of_unwritten (ends.Refused told) fault octets before after writes other never = absurd never
of_unwritten ends.ReadFault fault octets before after writes other never = absurd never
of_unwritten ends.WriteFault fault octets before after writes other h = other
of_unwritten ends.Memory fault octets before after writes other h = tt

module _ {S : Type 0} (finds : S → ObjectKey → Bool → S → Type 0) (answers : S → Called → Answer → S → Type 0)
    (m : Message) (from to : Sides S) (writes : ℕ × ℕ) where
  at_unwritten : (end : SessionEnd) (octets : List ℕ) → IsUnwritten end octets from.taken to.taken writes
      → (TakesPart from.taken octets to.taken → Tears finds answers m from to) → EndsAt finds answers m end from to writes
  at_unwritten ends.Closed octets never tears = absurd never
  at_unwritten ends.Cut octets never tears = absurd never
  at_unwritten (ends.Refused fault) octets never tears = absurd never
  at_unwritten ends.ReadFault octets never tears = absurd never
  at_unwritten ends.WriteFault octets h tears = (h.0, tears h.1)
  at_unwritten ends.Memory octets h tears = h

  pub at_reply : (r : Request) (end : SessionEnd) (reply : Reply) → m ≡ messages.Request r
      → IsReply finds answers from.servant r reply to.servant → IsUnwritten end (spelling V1_2 (messages.Reply reply)) from.taken to.taken writes
      → EndsAt finds answers m end from to writes
  at_reply r end reply is reply_is unwritten = at_unwritten end (spelling V1_2 (messages.Reply reply)) unwritten
      (λ torn. subst (λ x. Tears finds answers x from to) (sym is)
      (inl (record { reply = reply; reply_is = reply_is; torn = torn })))

  pub at_located : (l : Locate) (end : SessionEnd) (reply : Located) → m ≡ messages.Locate l → IsLocated finds from.servant l reply to.servant
      → IsUnwritten end (spelling V1_2 (messages.LocateReply reply)) from.taken to.taken writes → EndsAt finds answers m end from to writes
  at_located l end reply is reply_is unwritten = at_unwritten end (spelling V1_2 (messages.LocateReply reply)) unwritten
      (λ torn. subst (λ x. Tears finds answers x from to) (sym is) (record { reply = reply; reply_is = reply_is; torn = torn }))

  pub at_too_long : (r : Request) (end : SessionEnd) → m ≡ messages.Request r → is_short r ≡ false → to.servant ≡ from.servant
      → IsToldSo end from.taken to.taken writes → IsOfFault end (TooLarge 0) → EndsAt finds answers m end from to writes
  at_too_long r ends.Closed is long still never of_fault = absurd never
  at_too_long r ends.Cut is long still never of_fault = absurd never
  at_too_long r (ends.Refused fault) is long still told of_fault = (r, is, long, of_fault.0, still, told)
  at_too_long r ends.ReadFault is long still never of_fault = absurd never
  at_too_long r ends.WriteFault is long still h of_fault =
      (h.0, subst (λ x. Tears finds answers x from to) (sym is) (inr (long, record { torn = h.1; still = still })))
  at_too_long r ends.Memory is long still h of_fault = h

  pub at_starved : from.taken ≡ to.taken → EndsAt finds answers m ends.Memory from to writes
  at_starved same = subst (λ x. IsTorn from.taken x) same (untorn from.taken)

-- ---- from message to message

module _ {S : Type 0} (finds : S → ObjectKey → Bool → S → Type 0) (answers : S → Called → Answer → S → Type 0) where
  pub serves_next : (m : Message) (old new : Held) (from to : Sides S) (octets : List ℕ) (before : Sides S)
      → IsGoing finds answers octets old before from → HasGiven m old new → Serves finds answers m from to → IsGoing finds answers octets new before to
  serves_next m old new from to octets before h (framed, is, gives) serves = record {
    read = h.read ++ framed ∷ [];
    holds = gives profile_versions octets h.read h.holds;
    served = one_more h.read framed from to h.served (subst (λ x. Serves finds answers x from to) (sym is) serves);
  }

  pub goes_nowhere : (h : Held) (at : Sides S) → GoesOn finds answers h h at at
  goes_nowhere h at octets before going = going

  pub goes_next : (m : Message) (first old new : Held) (start from to : Sides S)
      → GoesOn finds answers first old start from → HasGiven m old new → Serves finds answers m from to → GoesOn finds answers first new start to
  goes_next m first old new start from to goes given serves octets before going =
      serves_next m old new from to octets before (goes octets before going) given serves

  pub goes_so_far : (first old new : Held) (start from : Sides S) → GoesOn finds answers first old start from → HasGivenAll old new → GoesOn finds answers first new start from
  goes_so_far first old new start from goes all octets before going =
      let h = goes octets before going in
      record { read = h.read; holds = (all profile_versions octets h.read h.holds).0; served = h.served }

  -- a message that ends the session came
  pub ends_at : (m : Message) (end : SessionEnd) (first old new : Held) (start from to : Sides S) (writes : ℕ × ℕ)
      → GoesOn finds answers first old start from → HasGiven m old new → EndsAt finds answers m end from to writes → EndsGoing finds answers end first start to writes
  ends_at m ends.Closed first old new start from to writes goes (framed, is, gives) (close, same) octets before left reads going =
      let h = goes octets before going in
      inr (record {
        read = h.read;
        close = framed;
        close_is = trans is close;
        begun = begun octets (h.read ++ framed ∷ []) new (gives profile_versions octets h.read h.holds);
        served = subst (λ x. ServesAll finds answers before h.read x) (sym same) h.served;
      })
  ends_at m (ends.Refused fault) first old new start from to writes goes (framed, is, gives) (r, request, list, long, still, told) octets before left reads going =
      let h = goes octets before going in
      record {
        read = h.read;
        midway = from;
        served = h.served;
        cause = inr (framed, r, trans is request, begun octets (h.read ++ framed ∷ []) new (gives profile_versions octets h.read h.holds), list, long);
        told = told;
        still = still;
      }
  ends_at m ends.WriteFault first old new start from to writes goes (framed, is, gives) (risen, torn) octets before left reads going =
      let h = goes octets before going in (
        risen,
        record {
          read = h.read;
          midway = from;
          served = h.served;
          torn = inl (record {
            framed = framed;
            begun = begun octets (h.read ++ framed ∷ []) new (gives profile_versions octets h.read h.holds);
            torn = subst (λ x. Tears finds answers x from to) (sym is) torn;
          });
        },
      )
  ends_at m ends.Memory first old new start from to writes goes given (part, torn) octets before left reads going =
      let h = goes octets before going in
      record { read = h.read; midway = from; begun = begun octets h.read old h.holds; served = h.served; part = part; torn = torn }
  ends_at m ends.Cut first old new start from to writes goes given never octets before left reads going = absurd never
  ends_at m ends.ReadFault first old new start from to writes goes given never octets before left reads going = absurd never

  -- what came is never message
  pub ends_refused : (fault : FrameFault) (end : SessionEnd) (first old new : Held) (start from to : Sides S) (writes : ℕ × ℕ)
      → GoesOn finds answers first old start from → (fault ≡ Memory) ⊎ IsRefusedAtPlace old new fault → HasKept old new
      → IsToldSo end from.taken to.taken writes → IsOfFault end fault → to.servant ≡ from.servant → EndsGoing finds answers end first start to writes
  ends_refused fault (ends.Refused said) first old new start from to writes goes (inl memory) kept told (same, no_memory) still octets before left reads going =
      absurd (no_memory memory)
  ends_refused fault (ends.Refused said) first old new start from to writes goes (inr refused) kept told (same, no_memory) still octets before left reads going =
      let h = goes octets before going in
      record {
        read = h.read;
        midway = from;
        served = h.served;
        cause = inl (new.place, subst (λ f. IsRefused profile_versions h.read new.place f octets) (sym same) (refused profile_versions octets h.read h.holds));
        told = told;
        still = still;
      }
  ends_refused fault ends.WriteFault first old new start from to writes goes (inl memory) kept told no_memory still octets before left reads going =
      absurd (no_memory memory)
  ends_refused fault ends.WriteFault first old new start from to writes goes (inr refused) kept (risen, torn) no_memory still octets before left reads going =
      let h = goes octets before going in (
        risen,
        record {
          read = h.read;
          midway = from;
          served = h.served;
          torn = inr (record {
            fault = fault;
            cause = (new.place, refused profile_versions octets h.read h.holds);
            torn = record { torn = torn; still = still };
          });
        },
      )
  ends_refused fault ends.Memory first old new start from to writes goes refused kept (part, torn) of_fault still octets before left reads going =
      let h = goes octets before going in
      record { read = h.read; midway = from; begun = begun octets h.read old h.holds; served = h.served; part = part; torn = torn }
  ends_refused fault ends.Closed first old new start from to writes goes refused kept never of_fault still octets before left reads going = absurd never
  ends_refused fault ends.Cut first old new start from to writes goes refused kept never of_fault still octets before left reads going = absurd never
  ends_refused fault ends.ReadFault first old new start from to writes goes refused kept never of_fault still octets before left reads going = absurd never

  -- ---- one message of a stream

  pub step_goes : (m : Message) (old new : Held) (from to : Sides S) → GivesNext HasGiven (Ok (Some m)) old new → Serves finds answers m from to → GoesOn finds answers old new from to
  step_goes m old new from to given serves octets before going = serves_next m old new from to octets before going given.message serves

  pub step_none : (old new : Held) (at : Sides S) → GivesNext HasGiven (Ok None) old new → GoesOn finds answers old new at at
  step_none old new at given = goes_so_far old old new at at (goes_nowhere old at) (given.nothing refl)

  pub step_ends : (m : Message) (end : SessionEnd) (old new : Held) (from to : Sides S) (writes : ℕ × ℕ) → GivesNext HasGiven (Ok (Some m)) old new
      → EndsAt finds answers m end from to writes → EndsGoing finds answers end old from to writes
  step_ends m end old new from to writes given ends_here = ends_at m end old old new from from to writes (goes_nowhere old from) given.message ends_here

  pub step_refused : (fault : FrameFault) (end : SessionEnd) (old new : Held) (from to : Sides S) (writes : ℕ × ℕ)
      → GivesNext HasGiven (Err fault) old new → IsToldSo end from.taken to.taken writes → IsOfFault end fault → to.servant ≡ from.servant
      → EndsGoing finds answers end old from to writes
  step_refused fault end old new from to writes given told of_fault still =
      ends_refused fault end old old new from from to writes (goes_nowhere old from) given.refused given.keeps told of_fault still

  pub goes_on : (first old new : Held) (start from to : Sides S) → GoesOn finds answers first old start from → GoesOn finds answers old new from to → GoesOn finds answers first new start to
  goes_on first old new start from to goes then_goes octets before going = then_goes octets before (goes octets before going)
