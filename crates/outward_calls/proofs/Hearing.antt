-- What is heard in what was answered, by what comes first in it.
use Rattle.std.proofs.Common.{◌≡◌, ◌⊎◌, ◌&&◌, ◌==◌, inl, inr, refl, subst, arith, ℕ, Bool, true, false, is_err, List, [], Result, Ok, Err, OnOk}
use Rattle.std.proofs.lemmas.Bool.Decides.{nat_tests}
use Rattle.giop_frames.specs.Header.{profile_versions}
use Rattle.giop_frames.specs.declared.fault.FrameFault.{FrameFault}
use Rattle.giop_frames.specs.declared.fault.FrameFault.TheVariants.{Memory, Short}
use Rattle.giop_frames.specs.declared.message.Message.{Message}
use Rattle.giop_streams.specs.Held.{HasCome, HasGiven, HasGivenAll, Held, Holds, IsRefusedAtPlace}
use Rattle.giop_streams.specs.Stream.{part_at}
use Rattle.ots_calls.specs.Heard.{heard_in_reply}
use Rattle.ots_calls.specs.declared.call.Call.{Call}
use Rattle.ots_model.specs.declared.completion.Heard.TheVariants as phase_hears
use Rattle.ots_model.specs.declared.tree.Heard.{Heard}
use Rattle.ots_model.specs.declared.tree.Heard.TheVariants as hears
use Rattle.ots_outside.specs.declared.link.Outcome.TheVariants.{Replied}
use Rattle.ots_sessions.specs.Short.{is_short_list}
use Rattle.outward_calls.specs.Words.{ComesFirst, IsHeard}
use Rattle.outward_calls.specs.WordsInside.{HearsFault, HearsOf}

both : (a b : Bool) → a && b ≡ true → (a ≡ true) × (b ≡ true)
both true true is = (refl, refl)
both true false is = absurd (cc (is))
both false b is = absurd (cc (is))

not_both : (a b : Bool) → a && b ≡ false → a ≡ true → b ≡ false
not_both true b is so = is
not_both false b is so = absurd (cc (so))

same_number : (a b : ℕ) → (a == b) ≡ true → a ≡ b
same_number a b is = grind (arith, nat_tests, is)

is_same_number : (a b : ℕ) → a ≡ b → (a == b) ≡ true
is_same_number a b is = grind (arith, nat_tests, is)

module _ (id : ℕ) (call : Call) (octets : List ℕ) (fresh fed read : Held) (heard : Heard)
    (holds : Holds profile_versions [] [] fresh) (come : HasCome octets fresh fed) where
  held : Holds profile_versions octets [] fed
  held = come profile_versions [] [] holds

  first : (message : Message) → HasGiven message fed read → ComesFirst octets message
  first message (framed, message_is, gives) = record {
    framed = framed;
    held = read;
    first = gives profile_versions octets [] held;
    message_is = message_is;
  }

  pub heard_first : (message : Message) → HasGiven message fed read → HearsOf id call message heard → IsHeard id call (Replied octets) heard
  heard_first message given (inr none) = inr (inr (
    none.heard_is,
    inl (record {
      message = message;
      first = first message given;
      another = λ reply is number. not_both (reply.id == id) (is_short_list reply.body) (none.another reply is) (is_same_number reply.id id number);
    }),
  ))
  heard_first message given (inl h) = by_heard h.heard_is
    where
      own : ((h.reply.id == id) ≡ true) × (is_short_list h.reply.body ≡ true)
      own = both (h.reply.id == id) (is_short_list h.reply.body) h.own

      by_heard : (heard ≡ hears.Phase phase_hears.Starved) ⊎ (heard ≡ heard_in_reply call h.reply) → IsHeard id call (Replied octets) heard
      by_heard (inl starved) = inl starved
      by_heard (inr is) = inr (inl (
        h.reply,
        record {
          first = subst (λ m. ComesFirst octets m) h.message_is (first message given);
          number = same_number h.reply.id id own.0;
          short = own.1;
        },
        is,
      ))

  pub heard_none : HasGivenAll fed read → part_at read.versions read.rest ≡ Err Short → heard ≡ hears.Phase phase_hears.Other
      → IsHeard id call (Replied octets) heard
  heard_none all partial is = inr (inr (
    is,
    inr (inl (record {
      held = read;
      none = (all profile_versions octets [] held).0;
      partial = partial;
    })),
  ))

  pub heard_refused : (fault : FrameFault) → (fault ≡ Memory) ⊎ IsRefusedAtPlace fed read fault → HearsFault fault heard
      → IsHeard id call (Replied octets) heard
  heard_refused fault refused (inl (memory, starved)) = inl starved
  heard_refused fault (inl memory) (inr (other, is)) = absurd (other memory)
  heard_refused fault (inr refused) (inr (other, is)) = inr (inr (
    is,
    inr (inr (record {
      place = read.place;
      fault = fault;
      cause = other;
      refused = refused profile_versions octets [] held;
    })),
  ))

pub fed_where : {P : Type 0} (r : Result (Unit {0}) FrameFault) → OnOk r P → is_err r ≡ false → P
fed_where (Ok u) ok never = ok
fed_where (Err fault) ok never = absurd (cc (never))
