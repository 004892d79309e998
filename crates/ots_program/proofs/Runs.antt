-- A replay of a source under way.
use Rattle.std.proofs.Common.{◌≡◌, ℕ, ◌<◌, ◌≤◌, inl, inr, List, [], ◌++◌, length, take, drop, Option, Some, None, IfSome, refl, ap, subst, ◌∙◌, append_assoc, append-nil, arith}
use Rattle.std.specs.Option.{unwrap_or}
use Rattle.std.proofs.lemmas.List.{take-append-drop}
use Rattle.std.proofs.Math.Seq.{take-append_seam}
use Rattle.nodes_world.specs.Told.{Told, text}
use Rattle.ots_outside.specs.Source.{Gives, HasRisen}
use Rattle.ots_program.specs.declared.player.Player.{Player}
use Rattle.ots_program.specs.declared.status.Status.{Status}
use Rattle.ots_program.specs.declared.status.Status.TheVariants as statuses
use Rattle.ots_program.specs.Answers.{IsReadToEnd, Replays, TakesFront, TakesLines, TakesSome, Writes}
use Rattle.ots_program.specs.Laws.{WorldsAgree}
use Rattle.ots_program.specs.PlayingInside.{left}
use Rattle.ots_program.specs.Replay.{Replay, replay}
use Rattle.ots_program.specs.ReplayInside.{Advances, BreaksOff, Halts, PlaysPiece}
use Rattle.ots_program.proofs.Agreed.{replay-agrees, replay-lasts, replay-tells_again}
use Rattle.ots_program.proofs.ReadBack.{IfSome-read}
use Rattle.ots_program.proofs.Safely.{IfSome-safely}
use Rattle.ots_program.proofs.Taken.{Advances-none, Advances-trans, Halts-advanced, Halts-read}
use Rattle.ots_program.proofs.Told.{text-append}

-- ---- what was read

-- where the source tells its octets, these were read, and these are left
abbrev pub Reads : (seen rest : List ℕ) (script now : Option (List ℕ)) → Type 0
Reads seen rest script now = IfSome script (λ all. (now ≡ Some rest) × (all ≡ seen ++ rest))

Reads-start : (script : Option (List ℕ)) → Reads [] (unwrap_or script []) script script
Reads-start None = tt
Reads-start (Some all) = (refl, refl)

-- the next piece was read
Reads-more : (seen rest : List ℕ) (script now later : Option (List ℕ)) (places n : ℕ) (room : List ℕ) → Reads seen rest script now
    → IfSome now (λ octets. Gives octets places n room later) → Reads (seen ++ take n room) (drop n rest) script later
Reads-more seen rest None now later places n room h gives = tt
Reads-more seen rest (Some all) now later places n room h gives =
    let g : Gives rest places n room later = rw h.0 at gives in
    (g.rest, h.1 ∙ rw (append_assoc, g.octets, take-append-drop n rest) refl)

-- the end was read
Reads-end : (seen rest : List ℕ) (script now later : Option (List ℕ)) (places n : ℕ) (room : List ℕ) → Reads seen rest script now
    → IfSome now (λ octets. Gives octets places n room later) → n ≡ 0 → 0 < places → IfSome script (λ all. (later ≡ Some []) × (all ≡ seen))
Reads-end seen rest None now later places n room h gives none some = tt
Reads-end seen rest (Some all) now later places n room h gives none some =
    let g : Gives rest places n room later = rw h.0 at gives in
    let e : rest ≡ [] = g.end none some in
    (rw (g.rest, none, e) refl, rw (e, append-nil) at h.1)

-- ---- what was played

-- The player was fed the octets that were read, and the sink has taken what they tell; what else the source has is still
-- to come.
pub record Runs (player : Player) (script now before after : Option (List ℕ)) : Type 0 where
  pub seen : List ℕ
  pub rest : List ℕ
  pub reads : Reads seen rest script now
  pub advances : (octets : List ℕ) → Advances (replay (seen ++ octets)) (left player octets) before after

pub Runs-start : (player : Player) (script taken : Option (List ℕ)) → ((octets : List ℕ) → left player octets ≡ replay octets) → Runs player script script taken taken
Runs-start player script taken e =
    record { seen = []; rest = unwrap_or script []; reads = Reads-start script; advances = λ octets. rw (e octets) (Advances-none (replay octets) taken) }

-- the next piece was played
pub Runs-more : (player next : Player) (script now later before mid after : Option (List ℕ)) (places n : ℕ) (room : List ℕ) → Runs player script now before mid
    → IfSome now (λ octets. Gives octets places n room later) → PlaysPiece player next (take n room) mid after → Runs next script later before after
Runs-more player next script now later before mid after places n room h gives on = record {
  seen = h.seen ++ take n room;
  rest = drop n h.rest;
  reads = Reads-more h.seen h.rest script now later places n room h.reads gives;
  advances = λ octets. rw (append_assoc h.seen (take n room) octets) (Advances-trans _ _ _ before mid after (h.advances (take n room ++ octets)) (on.advances octets));
}

-- ---- how it ends

TakesFront-lines : (some others : List Told) (taken : List ℕ) (after : Option (List ℕ)) → TakesLines some taken after → TakesFront (some ++ others) taken after
TakesFront-lines some others taken after h =
    (length (text some), rw (h, text-append some others, take-append_seam (text some) (text others)) refl)

TakesFront-limit : (k : ℕ) (some others : List Told) (taken : List ℕ) (after : Option (List ℕ)) → TakesLines (some ++ take k others) taken after → TakesFront (some ++ others) taken after
TakesFront-limit k some others taken after h =
    let e : (some ++ take k others) ++ drop k others ≡ some ++ others = append_assoc some (take k others) (drop k others) ∙ ap (λ lines. some ++ lines) (take-append-drop k others) in
    subst (λ (lines : List Told). TakesFront lines taken after) e (TakesFront-lines (some ++ take k others) (drop k others) taken after h)

TakesFront-some : (all : List Told) (taken : List ℕ) (after : Option (List ℕ)) → TakesSome all taken after → TakesFront all taken after
TakesFront-some all taken after h =
    subst (λ (lines : List Told). TakesFront lines taken after) (take-append-drop h.0 all) (TakesFront-lines (take h.0 all) (drop h.0 all) taken after h.1)

-- whatever the status, a front of the replay's lines was taken
TakesFront-written : (status : Status) (r : Replay) (taken : List ℕ) (after : Option (List ℕ)) → Writes status r taken after → TakesFront (r.lines ++ r.further) taken after
TakesFront-written statuses.Done r taken after h = TakesFront-lines r.lines r.further taken after h
TakesFront-written (statuses.Script line) r taken after h = TakesFront-lines r.lines r.further taken after h
TakesFront-written (statuses.Limit line number) r taken after h = TakesFront-limit h.0 r.lines r.further taken after h.1
TakesFront-written statuses.Usage r taken after h = h
TakesFront-written statuses.DiskFault r taken after h = h
TakesFront-written statuses.DoorFault r taken after h = h
TakesFront-written (statuses.BadJournal at) r taken after h = h
TakesFront-written (statuses.BadMessage place fault) r taken after h = h
TakesFront-written statuses.ReadFault r taken after h = TakesFront-some (r.lines ++ r.further) taken after h
TakesFront-written statuses.WriteFault r taken after h = h
TakesFront-written statuses.Memory r taken after h = TakesFront-some (r.lines ++ r.further) taken after h

Replays-front : (status : Status) (octets : List ℕ) (before after : Option (List ℕ)) → Halts status (replay octets) before after → IfSome before (λ taken. TakesFront ((replay octets).lines ++ (replay octets).further) taken after)
Replays-front status octets None after h = tt
Replays-front status octets (Some taken) after h = TakesFront-written status (replay octets) taken after h.writes

-- the replay of octets ended, which are all of the source's where it tells them
Replays-halted : WorldsAgree → (status : Status) (octets : List ℕ) (script before after : Option (List ℕ)) → IfSome script (λ all. all ≡ octets) → Halts status (replay octets) before after → Replays status script before after
Replays-halted law status octets script before after e h = record {
  of_replay = h.of_replay;
  octets = octets;
  of_source = e;
  tells = h.tells;
  writes = h.writes;
  safe = IfSome-safely law octets before after (Replays-front status octets before after h);
  read = IfSome-read law octets before after (Replays-front status octets before after h);
  agreed = replay-agrees law octets;
  lasts = replay-lasts law octets;
  again = replay-tells_again law octets;
}

Reads-all : (seen rest : List ℕ) (script now : Option (List ℕ)) → Reads seen rest script now → IfSome script (λ all. all ≡ seen ++ rest)
Reads-all seen rest None now h = tt
Reads-all seen rest (Some all) now h = h.1

-- reading failed
pub Replays-read : WorldsAgree → (player : Player) (script now before after : Option (List ℕ)) → Runs player script now before after → Replays statuses.ReadFault script before after
Replays-read law player script now before after h =
    Replays-halted law statuses.ReadFault (h.seen ++ h.rest) script before after (Reads-all h.seen h.rest script now h.reads) (Halts-read _ _ before after (h.advances h.rest))

-- the replay broke off at a piece
pub Replays-broken : WorldsAgree → (player : Player) (status : Status) (script now later before mid after : Option (List ℕ)) (places n : ℕ) (room : List ℕ) → Runs player script now before mid
    → IfSome now (λ octets. Gives octets places n room later) → BreaksOff status player (take n room) mid after → Replays status script before after
Replays-broken law player status script now later before mid after places n room h gives b =
    let all = Reads-all _ _ script later (Reads-more h.seen h.rest script now later places n room h.reads gives) in
    Replays-halted law status ((h.seen ++ take n room) ++ drop n h.rest) script before after all
    (rw (append_assoc h.seen (take n room) (drop n h.rest)) (Halts-advanced status _ _ before mid after (h.advances (take n room ++ drop n h.rest)) (b.halts (drop n h.rest))))

IfSome-first : (script : Option (List ℕ)) (P Q : List ℕ → Type 0) → IfSome script (λ all. P all × Q all) → IfSome script P
IfSome-first None P Q h = tt
IfSome-first (Some all) P Q h = h.0

IfSome-second : (script : Option (List ℕ)) (P Q : List ℕ → Type 0) → IfSome script (λ all. P all × Q all) → IfSome script Q
IfSome-second None P Q h = tt
IfSome-second (Some all) P Q h = h.1

-- the source and the replay ended
pub Replays-ended : WorldsAgree → (player : Player) (status : Status) (script now later before mid after : Option (List ℕ)) (places n : ℕ) (room : List ℕ) → Runs player script now before mid
    → IfSome now (λ octets. Gives octets places n room later) → n ≡ 0 → 0 < places → Halts status (left player []) mid after → Replays status script before after
Replays-ended law player status script now later before mid after places n room h gives none some halts =
    let end = Reads-end h.seen h.rest script now later places n room h.reads gives none some in
    let advanced = rw (append-nil h.seen) at (h.advances []) in
    Replays-halted law status h.seen script before after (IfSome-second script (λ all. later ≡ Some []) (λ all. all ≡ h.seen) end) (Halts-advanced status _ _ before mid after advanced halts)

pub Runs-read_to_end : (player : Player) (script now later before after : Option (List ℕ)) (places n : ℕ) (room : List ℕ) → Runs player script now before after
    → IfSome now (λ octets. Gives octets places n room later) → n ≡ 0 → 0 < places → IsReadToEnd script later
Runs-read_to_end player script now later before after places n room h gives none some =
    IfSome-first script (λ all. later ≡ Some []) (λ all. all ≡ h.seen) (Reads-end h.seen h.rest script now later places n room h.reads gives none some)

-- ---- devices

-- counts of faults never fall
pub HasRisen-later : (before mid after : ℕ) → before ≤ mid → mid ≤ after → HasRisen mid after → HasRisen before after
HasRisen-later before mid after early late (inl h) = inl (omega arith)
HasRisen-later before mid after early late (inr h) = grind (arith, h)
