-- How a session begins, reads on, and ends.
use Rattle.std.proofs.Common.{◌∙◌, ◌≡◌, ◌≢◌, ◌≤◌, ◌<◌, ◌⊎◌, ◌↔◌, Bool, true, false, IsTrue, ◌∷◌, ◌++◌, inl, inr, refl, sym, subst, arith, ℕ, List, [], Option, Some, None, Result, Ok, Err, take, drop}
use Rattle.std.specs.Prelude.{OnOk}
use Rattle.std.specs.Result.{is_err}
use Rattle.std.proofs.lemmas.List.{append_assoc, append-nil, take-append-drop}
use Rattle.giop_frames.specs.Header.{profile_versions}
use Rattle.giop_frames.specs.declared.fault.FrameFault.TheVariants.{Short}
use Rattle.giop_streams.specs.Held.{HasCome, Held, Holds, IsUnfinished, nothing_of}
use Rattle.giop_streams.specs.Stream.{IsBegun, Splits, earliest, offset, part_at, unfinished}
use Rattle.giop_streams.specs.declared.framed.Framed.{Framed}
use Rattle.ior_refs.specs.declared.key.ObjectKey.{ObjectKey}
use Rattle.ots_calls.specs.declared.answer.Answer.{Answer}
use Rattle.ots_calls.specs.declared.call.Called.{Called}
use Rattle.ots_outside.specs.Source.{GivesOf, HasRisen}
use Rattle.ots_sessions.proofs.Going.{begun, untorn}
use Rattle.ots_sessions.specs.Sessions.{EndsSo, HasRead, HasReadAll, IsCutOff, IsDone, IsSession, Sides, none}
use Rattle.ots_sessions.specs.SessionsInside.{EndsGoing, GoesOn, IsGoing, IsSoFar}
use Rattle.ots_sessions.specs.declared.session.SessionEnd.{SessionEnd}
use Rattle.ots_sessions.specs.declared.session.SessionEnd.TheVariants as ends

trans : {A : Type 0} {x y z : A} → x ≡ y → y ≡ z → x ≡ z
trans p q = p ∙ q

-- what holds where a call succeeded, of one that did
pub on_ok : {T E P : Type 0} (result : Result T E) → is_err result ≡ false → OnOk result P → P
on_ok (Ok value) never holds = holds
on_ok (Err fault) never holds = absurd (cc (never))

-- ---- what was read

nothing_read : (left : Option (List ℕ)) → HasRead [] left left
nothing_read None = tt
nothing_read (Some all) = (all, refl, refl)

read_more : (octets filled : List ℕ) (places n : ℕ) (left midway later : Option (List ℕ))
    → HasRead octets left midway → GivesOf midway places n filled later → HasRead (octets ++ take n filled) left later
read_more octets filled places n None midway later read gives = tt
read_more octets filled places n (Some all) midway later (rest, is, now) gives =
    let given = subst (λ m. GivesOf m places n filled later) now gives in
    let parts = take-append-drop n rest in
    let grouped = append_assoc octets (take n filled) (drop n rest) in
    (drop n rest, cc (is, given.octets, parts, grouped), given.rest)

read_all : (octets filled : List ℕ) (places : ℕ) (left midway later : Option (List ℕ))
    → HasRead octets left midway → GivesOf midway places 0 filled later → 0 < places → HasReadAll octets left × HasRead octets left later
read_all octets filled places None midway later read gives some = (tt, tt)
read_all octets filled places (Some all) midway later (rest, is, now) gives some =
    let given = subst (λ m. GivesOf m places 0 filled later) now gives in
    let nothing = given.end refl some in
    let whole = append-nil octets in
    (cc (is, nothing, whole), (rest, is, given.rest))

-- ---- what a stream holds at the end of its octets

no_more : {A : Type 0} (xs : List A) → ¬ (xs ≢ []) → xs ≡ []
no_more [] h = refl
no_more (x ∷ xs) h = absurd (h (λ e. absurd (cc (e))))

begun_more : (octets piece : List ℕ) (read : List Framed) → IsBegun profile_versions read octets → IsBegun profile_versions read (octets ++ piece)
begun_more octets piece read b = record {
  parts = b.parts;
  rest = b.rest ++ piece;
  splits = record {
    front = b.splits.front;
    whole = cc (b.splits.whole, append_assoc b.splits.front b.rest piece);
    are_parts = b.splits.are_parts;
    taken = b.splits.taken;
    messages_are = b.splits.messages_are;
  };
}

nothing_more : IsUnfinished (nothing_of profile_versions) → ⊥
nothing_more (inl more) = more refl
nothing_more (inr more) = more refl

empty_or_not : {A : Type 0} (xs : List A) → (xs ≡ []) ⊎ (xs ≢ [])
empty_or_not [] = inl refl
empty_or_not (x ∷ xs) = inr (λ e. absurd (cc (e)))

neither : {A B : Type 0} {xs : List A} {ys : List B} → xs ≡ [] → ys ≡ [] → (xs ≢ []) ⊎ (ys ≢ []) → ⊥
neither first second (inl more) = more first
neither first second (inr more) = more second

some_or_neither : {A B : Type 0} {xs : List A} {ys : List B} → (xs ≡ []) ⊎ (xs ≢ []) → (ys ≡ []) ⊎ (ys ≢ [])
    → ((xs ≢ []) ⊎ (ys ≢ [])) ⊎ (¬ ((xs ≢ []) ⊎ (ys ≢ [])))
some_or_neither (inr more) either = inl (inl more)
some_or_neither (inl first) (inr more) = inl (inr more)
some_or_neither (inl first) (inl second) = inr (neither first second)

-- a stream holds some octets of a message that isn't whole, or none
unfinished_or_not : (stream : Held) → IsUnfinished stream ⊎ (¬ IsUnfinished stream)
unfinished_or_not stream = some_or_neither (empty_or_not stream.unfinished) (empty_or_not stream.rest)

-- ---- counts of faults

risen_since : (a b c : ℕ) → a ≤ b → b ≤ c → HasRisen b c → HasRisen a c
risen_since a b c low high risen = grind arith

module _ {S : Type 0} (finds : S → ObjectKey → Bool → S → Type 0) (answers : S → Called → Answer → S → Type 0) where
  ends_since : (end : SessionEnd) (octets : List ℕ) (left : Option (List ℕ)) (before after : Sides S) (reads : ℕ × ℕ) (a b c : ℕ)
      → a ≤ b → b ≤ c → EndsSo finds answers end octets left before after reads (b, c) → EndsSo finds answers end octets left before after reads (a, c)
  ends_since ends.Closed octets left before after reads a b c low high h = h
  ends_since ends.Cut octets left before after reads a b c low high h = h
  ends_since (ends.Refused fault) octets left before after reads a b c low high h = h
  ends_since ends.ReadFault octets left before after reads a b c low high h = h
  ends_since ends.WriteFault octets left before after reads a b c low high h = (risen_since a b c low high h.0, h.1)
  ends_since ends.Memory octets left before after reads a b c low high h = h

  pub ends_later : (end : SessionEnd) (first old : Held) (start from to : Sides S) (a b c : ℕ) → GoesOn finds answers first old start from → a ≤ b → b ≤ c
      → EndsGoing finds answers end old from to (b, c) → EndsGoing finds answers end first start to (a, c)
  ends_later end first old start from to a b c goes low high ends_so octets before left reads going =
      ends_since end octets left before to reads a b c low high (ends_so octets before left reads (goes octets before going))

  pub starts : (stream : Held) (left : Option (List ℕ)) (before : Sides S) → Holds profile_versions [] [] stream
      → stream ≡ nothing_of profile_versions → IsSoFar finds answers stream left left before before
  starts stream left before holds is = record {
    octets = [];
    has_read = nothing_read left;
    going = record { read = []; holds = holds; served = none };
    partial = λ more. absurd (subst (λ (h : Held). IsUnfinished h → ⊥) (sym is) (nothing_more) more);
  }

  module _ (stream : Held) (left midway : Option (List ℕ)) (before now : Sides S) (h : IsSoFar finds answers stream left midway before now) where
    -- all messages are answered, and no octets of another have come, or some
    done : ¬ IsUnfinished stream → IsDone finds answers h.octets before now
    done finished =
        let no_rest = no_more stream.rest (λ more. finished (inr more)) in
        let no_message = no_more stream.unfinished (λ more. finished (inl more)) in
        record {
          read = h.going.read;
          whole = record {
            parts = h.going.holds.parts;
            splits = subst (λ r. Splits profile_versions h.octets h.going.holds.parts h.going.read r) no_rest h.going.holds.splits;
            finished = trans (sym h.going.holds.unfinished_are) no_message;
          };
          served = h.going.served;
        }

    cut_off : IsUnfinished stream → IsCutOff finds answers h.octets before now
    cut_off more = record {
      read = h.going.read;
      place = earliest (offset h.going.holds.parts) (unfinished h.going.holds.parts);
      cut = record {
        parts = h.going.holds.parts;
        rest = stream.rest;
        splits = h.going.holds.splits;
        partial = subst (λ v. part_at v stream.rest ≡ Err Short) h.going.holds.versions_are (h.partial more);
        inside = subst (λ u. (u ≢ []) ⊎ (stream.rest ≢ [])) h.going.holds.unfinished_are more;
        place_is = refl;
      };
      served = h.going.served;
    }

    done_or_cut_off : IsUnfinished stream ⊎ (¬ IsUnfinished stream) → IsDone finds answers h.octets before now ⊎ IsCutOff finds answers h.octets before now
    done_or_cut_off (inl more) = inr (cut_off more)
    done_or_cut_off (inr finished) = inl (done finished)

    -- reading has failed
    pub ends_read : (later : Option (List ℕ)) (a b c : ℕ) (writes : ℕ × ℕ) → later ≡ midway → a ≤ b → b ≤ c → HasRisen b c
        → IsSession finds answers ends.ReadFault left later before now (a, c) writes
    ends_read later a b c writes same low high risen = record {
      octets = h.octets;
      has_read = subst (λ l. HasRead h.octets left l) (sym same) h.has_read;
      ends_so = (risen_since a b c low high risen, done_or_cut_off (unfinished_or_not stream));
    }

    -- nothing more comes
    module _ (filled : List ℕ) (places : ℕ) (later : Option (List ℕ)) (reads writes : ℕ × ℕ) where
      pub ends_whole : (b : Bool) → GivesOf midway places 0 filled later → 0 < places → (IsTrue b ↔ IsUnfinished stream) → b ≡ false
          → IsSession finds answers ends.Closed left later before now reads writes
      ends_whole b gives some tells never =
          let finished : ¬ IsUnfinished stream = λ more. cc (never, tells.1 more) in
          let all = read_all h.octets filled places left midway later h.has_read gives some in
          record { octets = h.octets; has_read = all.1; ends_so = inl (all.0, done finished) }

      pub ends_cut : (b : Bool) → GivesOf midway places 0 filled later → 0 < places → (IsTrue b ↔ IsUnfinished stream) → b ≡ true
          → IsSession finds answers ends.Cut left later before now reads writes
      ends_cut b gives some tells so =
          let all = read_all h.octets filled places left midway later h.has_read gives some in
          record { octets = h.octets; has_read = all.1; ends_so = (all.0, cut_off (tells.0 so)) }

    -- memory is wanted for what comes
    pub ends_hungry : (filled : List ℕ) (places n : ℕ) (later : Option (List ℕ)) (reads writes : ℕ × ℕ) → GivesOf midway places n filled later
        → IsSession finds answers ends.Memory left later before now reads writes
    ends_hungry filled places n later reads writes gives =
        let torn = untorn now.taken in
        record {
          octets = h.octets ++ take n filled;
          has_read = read_more h.octets filled places n left midway later h.has_read gives;
          ends_so = record {
            read = h.going.read;
            midway = now;
            begun = begun_more h.octets (take n filled) h.going.read (begun h.octets h.going.read stream h.going.holds);
            served = h.going.served;
            part = torn.0;
            torn = torn.1;
          };
        }

    -- more has come, and is answered, or ends the session
    module _ (fed next : Held) (filled : List ℕ) (places n : ℕ) (later : Option (List ℕ)) (to : Sides S)
        (gives : GivesOf midway places n filled later) (come : HasCome (take n filled) stream fed) where
      going_more : IsGoing finds answers (h.octets ++ take n filled) fed before now
      going_more = record {
        read = h.going.read;
        holds = come profile_versions h.octets h.going.read h.going.holds;
        served = h.going.served;
      }

      pub reads_on : GoesOn finds answers fed next now to → part_at next.versions next.rest ≡ Err Short → IsSoFar finds answers next left later before to
      reads_on goes partial = record {
        octets = h.octets ++ take n filled;
        has_read = read_more h.octets filled places n left midway later h.has_read gives;
        going = goes (h.octets ++ take n filled) before going_more;
        partial = λ more. partial;
      }

      pub ends_by : (end : SessionEnd) (reads : ℕ × ℕ) (a b c : ℕ) → a ≤ b → b ≤ c → EndsGoing finds answers end fed now to (b, c)
          → IsSession finds answers end left later before to reads (a, c)
      ends_by end reads a b c low high ends_so = record {
        octets = h.octets ++ take n filled;
        has_read = read_more h.octets filled places n left midway later h.has_read gives;
        ends_so = ends_since end (h.octets ++ take n filled) left before to reads a b c low high
            (ends_so (h.octets ++ take n filled) before left reads going_more);
      }
