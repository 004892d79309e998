-- What a sink has taken of a replay.
use Rattle.std.proofs.Common.{◌≡◌, ℕ, ◌+◌, min, List, [], ◌++◌, length, take, Option, Some, None, Result, Ok, Err, OnOk, IfErr, IfSome, refl, ap, ◌∙◌, append_assoc, arith}
use Rattle.std.proofs.lemmas.Grind.{common_steps}
use Rattle.std.proofs.Math.Seq.{take-append-add, take-append_seam}
use Rattle.nodes_world.specs.Told.{Told, text}
use Rattle.ots_outside.specs.Sink.{Takes, TakesPart}
use Rattle.ots_program.specs.declared.player.Player.{Player}
use Rattle.ots_program.specs.declared.player.Stop.{Stop}
use Rattle.ots_program.specs.declared.player.Stop.TheVariants as stops
use Rattle.ots_program.specs.declared.status.Status.{Status}
use Rattle.ots_program.specs.declared.status.Status.TheVariants as statuses
use Rattle.ots_program.specs.Answers.{OfReplay, TakesFront, TakesSome, Tells, Writes}
use Rattle.ots_program.specs.PlayingInside.{Ends, IsFed, StopsAt, StopsIn, left, octets_fed}
use Rattle.ots_program.specs.Replay.{Replay, ahead_of}
use Rattle.ots_program.specs.ReplayInside.{Advances, BreaksOff, Halts, IsReady, PlaysPiece, StopsReplay, status_of}
use Rattle.ots_program.proofs.Told.{IsFront, IsFront-passed, IsFront-stopped, IsFront-ended, ahead_of-twice, take-shorter, text-append}

pub Takes-none : (taken : Option (List ℕ)) → Takes taken [] taken
Takes-none None = tt
Takes-none (Some taken) = grind (arith, common_steps)

pub Takes-trans : (xs ys : List ℕ) (before mid after : Option (List ℕ)) → Takes before xs mid → Takes mid ys after → Takes before (xs ++ ys) after
Takes-trans xs ys None mid after h k = tt
Takes-trans xs ys (Some taken) None after h k = absurd (cc (h))
Takes-trans xs ys (Some taken) (Some more) after h k =
    let e : more ≡ taken ++ xs = cc (h) in
    rw (k, e, append_assoc) refl

-- what was taken in part is a front of the replay's text
TakesFront-part : (told : List ℕ) (r : Replay) (before after : Option (List ℕ)) → IsFront told r → TakesPart before told after → IfSome before (λ taken. TakesFront (r.lines ++ r.further) taken after)
TakesFront-part told r None after front h = tt
TakesFront-part told r (Some taken) after front h = (min h.0 (length told), rw (h.1, front.split, take-shorter h.0 told front.rest) refl)

-- the lines so far were taken, whole
TakesSome-lines : (lines : List Told) (r : Replay) (before after : Option (List ℕ)) → Takes before (text lines) after → IfSome before (λ taken. TakesSome ((lines ++ r.lines) ++ r.further) taken after)
TakesSome-lines lines r None after h = tt
TakesSome-lines lines r (Some taken) after h = (length lines, rw (append_assoc lines r.lines r.further, take-append_seam lines (r.lines ++ r.further)) h)

pub Advances-none : (r : Replay) (taken : Option (List ℕ)) → Advances r r taken taken
Advances-none r taken = record { lines = []; whole = refl; taken = Takes-none taken }

pub Advances-trans : (r s t : Replay) (before mid after : Option (List ℕ)) → Advances r s before mid → Advances s t mid after → Advances r t before after
Advances-trans r s t before mid after h k =
    record { lines = h.lines ++ k.lines; whole = h.whole ∙ ap (ahead_of h.lines) k.whole ∙ ahead_of-twice h.lines k.lines t; taken = rw (text-append h.lines k.lines) (Takes-trans (text h.lines) (text k.lines) before mid after h.taken k.taken) }

-- ---- a replay that ends

-- the output was written in part
Halts-write : (r : Replay) (told : List ℕ) (before after : Option (List ℕ)) → IsFront told r → TakesPart before told after → Halts statuses.WriteFault r before after
Halts-write r told before after front h = record { of_replay = tt; tells = tt; writes = TakesFront-part told r before after front h }

-- reading failed behind what was played so far
pub Halts-read : (r s : Replay) (before after : Option (List ℕ)) → Advances r s before after → Halts statuses.ReadFault r before after
Halts-read r s before after h = record {
  of_replay = tt;
  tells = tt;
  writes = rw h.whole (TakesSome-lines h.lines s before after h.taken);
}

-- the replay stopped, and the output was written
Writes-stopped : (stop : Stop) (r : Replay) (told : List ℕ) (before after : Option (List ℕ)) → StopsAt stop r [] told → Takes before told after → IfSome before (λ taken. Writes (status_of stop) r taken after)
Writes-stopped stop r told None after h k = tt
Writes-stopped (stops.Script line) r told (Some taken) after h k = rw h.1 at k
Writes-stopped (stops.Limit line number) r told (Some taken) after h k = (h.1.0, rw h.1.1 at k)
Writes-stopped stops.Memory r told (Some taken) after h k = (h.0, rw h.1 at k)

Tells-stopped : (stop : Stop) (r : Replay) (told : List ℕ) → StopsAt stop r [] told → Tells (status_of stop) r.ending
Tells-stopped (stops.Script line) r told h = h.0
Tells-stopped (stops.Limit line number) r told h = h.0
Tells-stopped stops.Memory r told h = tt

OfReplay-stopped : (stop : Stop) → OfReplay (status_of stop)
OfReplay-stopped (stops.Script line) = tt
OfReplay-stopped (stops.Limit line number) = tt
OfReplay-stopped stops.Memory = tt

pub Halts-stopped : (stop : Stop) (r : Replay) (told : List ℕ) (before after : Option (List ℕ)) → StopsAt stop r [] told → Takes before told after → Halts (status_of stop) r before after
Halts-stopped stop r told before after h k =
    record { of_replay = OfReplay-stopped stop; tells = Tells-stopped stop r told h; writes = Writes-stopped stop r told before after h k }

-- the script ended, and the output was written
pub Halts-ended : (r : Replay) (told : List ℕ) (before after : Option (List ℕ)) → Ends r [] told → Takes before told after → Halts statuses.Done r before after
Halts-ended r told before after h k = record { of_replay = tt; tells = h.ending; writes = rw h.told at k }

-- the last output was written in part
pub Halts-cut : (result : Result (Unit {0}) Stop) (r : Replay) (output told : List ℕ) (before after : Option (List ℕ)) → output ≡ []
    → OnOk result (Ends r output told) → IfErr result (λ stop. StopsAt stop r output told)
    → TakesPart before told after → Halts statuses.WriteFault r before after
Halts-cut (Ok done) r output told before after none on stop h = Halts-write r told before after (IsFront-ended r told (rw none at on)) h
Halts-cut (Err why) r output told before after none on stop h = Halts-write r told before after (IsFront-stopped why r told (rw none at stop)) h

-- ---- a piece

-- a player was fed a piece, and what it told was written
pub PlaysPiece-fed : (old fed new : Player) (piece : List ℕ) (before after : Option (List ℕ)) → old.output.items ≡ [] → IsFed old fed piece
    → IsReady new → octets_fed new ≡ octets_fed fed → ((rest : List ℕ) → left new rest ≡ left fed rest)
    → Takes before fed.output.items after → PlaysPiece old new piece before after
PlaysPiece-fed old fed new piece before after none h ready count same k = record {
  ready = ready;
  fed = omega (arith, h.count, count);
  advances = λ rest.
      let p = h.passes rest in
      record { lines = p.lines; whole = rw (same rest) p.whole; taken = rw (p.told, none) at k };
}

StopsReplay-stopped : (stop : Stop) → StopsReplay (status_of stop)
StopsReplay-stopped (stops.Script line) = tt
StopsReplay-stopped (stops.Limit line number) = tt
StopsReplay-stopped stops.Memory = tt

-- a player stopped in a piece, and what it told was written
pub BreaksOff-stopped : (stop : Stop) (old fed : Player) (piece : List ℕ) (before after : Option (List ℕ)) → old.output.items ≡ [] → StopsIn stop old fed piece
    → Takes before fed.output.items after → BreaksOff (status_of stop) old piece before after
BreaksOff-stopped stop old fed piece before after none h k = record {
  stops = StopsReplay-stopped stop;
  halts = λ rest. Halts-stopped stop _ _ before after (rw none at (h rest)) k;
}

-- what a player told of a piece was written in part
pub BreaksOff-cut : (result : Result (Unit {0}) Stop) (old fed : Player) (piece : List ℕ) (before after : Option (List ℕ)) → old.output.items ≡ []
    → OnOk result (IsFed old fed piece) → IfErr result (λ stop. StopsIn stop old fed piece)
    → TakesPart before fed.output.items after → BreaksOff statuses.WriteFault old piece before after
BreaksOff-cut (Ok done) old fed piece before after none h stop k =
    record { stops = tt; halts = λ rest. Halts-write _ _ before after (IsFront-passed _ _ _ (rw none at (h.passes rest))) k }
BreaksOff-cut (Err why) old fed piece before after none h stop k =
    record { stops = tt; halts = λ rest. Halts-write _ _ before after (IsFront-stopped why _ _ (rw none at (stop rest))) k }

-- ---- behind lines

-- a front of what is left, behind the lines so far
TakesFront-ahead : (lines : List Told) (r : Replay) (taken more : List ℕ) (after : Option (List ℕ)) → more ≡ taken ++ text lines → TakesFront (r.lines ++ r.further) more after → TakesFront ((lines ++ r.lines) ++ r.further) taken after
TakesFront-ahead lines r taken more after e h =
    (length (text lines) + h.0, rw (h.1, e, append_assoc lines r.lines r.further, text-append lines (r.lines ++ r.further), take-append-add (text lines) (text (r.lines ++ r.further)) h.0, append_assoc) refl)

-- some of what is left, behind the lines so far
TakesSome-ahead : (lines : List Told) (r : Replay) (taken more : List ℕ) (after : Option (List ℕ)) → more ≡ taken ++ text lines → TakesSome (r.lines ++ r.further) more after → TakesSome ((lines ++ r.lines) ++ r.further) taken after
TakesSome-ahead lines r taken more after e h =
    (length lines + h.0, rw (h.1, e, append_assoc lines r.lines r.further, take-append-add lines (r.lines ++ r.further) h.0, text-append lines (take h.0 (r.lines ++ r.further)), append_assoc) refl)

Writes-ahead : (status : Status) (lines : List Told) (r : Replay) (taken more : List ℕ) (after : Option (List ℕ)) → more ≡ taken ++ text lines → Writes status r more after → Writes status (ahead_of lines r) taken after
Writes-ahead statuses.Done lines r taken more after e h = rw (h, e, text-append lines r.lines, append_assoc) refl
Writes-ahead (statuses.Script line) lines r taken more after e h = rw (h, e, text-append lines r.lines, append_assoc) refl
Writes-ahead (statuses.Limit line number) lines r taken more after e h =
    (h.0, rw (h.1, e, append_assoc lines r.lines (take h.0 r.further), text-append lines (r.lines ++ take h.0 r.further), append_assoc) refl)
Writes-ahead statuses.Usage lines r taken more after e h = TakesFront-ahead lines r taken more after e h
Writes-ahead statuses.DiskFault lines r taken more after e h = TakesFront-ahead lines r taken more after e h
Writes-ahead statuses.DoorFault lines r taken more after e h = TakesFront-ahead lines r taken more after e h
Writes-ahead (statuses.BadJournal at) lines r taken more after e h = TakesFront-ahead lines r taken more after e h
Writes-ahead (statuses.BadMessage place fault) lines r taken more after e h = TakesFront-ahead lines r taken more after e h
Writes-ahead statuses.ReadFault lines r taken more after e h = TakesSome-ahead lines r taken more after e h
Writes-ahead statuses.WriteFault lines r taken more after e h = TakesFront-ahead lines r taken more after e h
Writes-ahead statuses.Memory lines r taken more after e h = TakesSome-ahead lines r taken more after e h

IfSome-ahead : (status : Status) (lines : List Told) (r : Replay) (before mid after : Option (List ℕ)) → Takes before (text lines) mid → IfSome mid (λ taken. Writes status r taken after) → IfSome before (λ taken. Writes status (ahead_of lines r) taken after)
IfSome-ahead status lines r None mid after h k = tt
IfSome-ahead status lines r (Some taken) None after h k = absurd (cc (h))
IfSome-ahead status lines r (Some taken) (Some more) after h k = Writes-ahead status lines r taken more after (cc (h)) k

-- where it advanced to a replay that ends, it ends
pub Halts-advanced : (status : Status) (r s : Replay) (before mid after : Option (List ℕ)) → Advances r s before mid → Halts status s mid after → Halts status r before after
Halts-advanced status r s before mid after h k =
    rw h.whole (record { of_replay = k.of_replay; tells = k.tells; writes = IfSome-ahead status h.lines s before mid after h.taken k.writes })
