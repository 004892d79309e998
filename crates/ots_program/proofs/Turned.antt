-- What a line's turn makes of a replay.
use Rattle.std.proofs.Common.{◌≡◌, ℕ, zero, suc, ◌+◌, ◌<◌, ◌≤◌, min, List, [], ◌∷◌, ◌++◌, length, true, false, Result, Ok, Err, OnOk, IfErr, refl, ap, ◌∙◌, append_assoc, append-nil, length-append, arith}
use Rattle.nodes_world.specs.Lives.{last_lines}
use Rattle.nodes_world.specs.World.{World}
use Rattle.nodes_state.specs.Telling.{Tells, TellsPart}
use Rattle.nodes_replay.specs.Standing.{Standing}
use Rattle.ots_program.specs.declared.player.Player.{Player}
use Rattle.ots_program.specs.declared.player.Stop.{Stop}
use Rattle.ots_program.specs.declared.player.Stop.TheVariants as stops
use Rattle.ots_program.specs.Limits.{lines_limit, octets_limit}
use Rattle.ots_program.specs.PlayingInside.{IsOneLine, Passes, StopsAt, Ends, Turns, GoesOn, world_of, lines_of, place_of, row_of, left}
use Rattle.ots_program.specs.Replay.{Replay, Row, Place, Turn, Goes, Stops, Limited, Refused, rows, size, ahead_of, behind, completed, turn, replay_from}
use Rattle.ots_program.proofs.Replays.{replay-ended, replay-goes, replay-stops, turn-past_lines, turn-past_octets}
use Rattle.ots_program.proofs.Rows.{IsOneLine-push, rows-ended, rows-open, rows-begun}
use Rattle.ots_program.proofs.Told.{Passes-none, StopsAt-passed, Tells-none, Tells-trans, take-shorter}

-- at a limit
StopsAt-limit : (p : Place) (row : Row) (others : List Row) (number : ℕ) (before : List ℕ) → turn p row ≡ Stops (Limited (p.lines + 1) number) [] → StopsAt (stops.Limit (p.lines + 1) number) (replay_from p (row ∷ others)) before before
StopsAt-limit p row others number before e = rw (replay-stops p row others _ [] e) (refl, (0, Tells-none before))

pub StopsAt-past_lines : (p : Place) (text : List ℕ) (octet : ℕ) (rest before : List ℕ) → IsOneLine text → lines_limit ≤ p.lines → StopsAt (stops.Limit (p.lines + 1) lines_limit) (replay_from p (rows (text ++ octet ∷ rest))) before before
StopsAt-past_lines p text octet rest before one h =
    let b = rows-begun text octet rest one in
    rw b.split (StopsAt-limit p b.row b.others lines_limit before (turn-past_lines p b.row h))

pub StopsAt-past_octets : (p : Place) (text : List ℕ) (octet : ℕ) (rest before : List ℕ) → IsOneLine text → p.lines < lines_limit → octets_limit ≤ p.octets + length text → StopsAt (stops.Limit (p.lines + 1) octets_limit) (replay_from p (rows (text ++ octet ∷ rest))) before before
StopsAt-past_octets p text octet rest before one h long =
    let b = rows-begun text octet rest one in
    rw b.split (StopsAt-limit p b.row b.others octets_limit before (turn-past_octets p b.row h (omega (arith, b.long))))

-- the same where octets without a line feed come
pub StopsAt-more_lines : (p : Place) (text octets rest before : List ℕ) → IsOneLine text → 0 < length octets → lines_limit ≤ p.lines → StopsAt (stops.Limit (p.lines + 1) lines_limit) (replay_from p (rows (text ++ (octets ++ rest)))) before before
StopsAt-more_lines p text [] rest before one some h = absurd (omega (arith, some))
StopsAt-more_lines p text (octet ∷ octets) rest before one some h = StopsAt-past_lines p text octet (octets ++ rest) before one h

pub StopsAt-more_octets : (left : ℕ) (p : Place) (text octets rest before : List ℕ) → IsOneLine text → IsOneLine octets → p.lines < lines_limit → p.octets + length text + left ≡ octets_limit → left < length octets
    → StopsAt (stops.Limit (p.lines + 1) octets_limit) (replay_from p (rows (text ++ (octets ++ rest)))) before before
StopsAt-more_octets left p text [] rest before one more few full long = absurd (omega (arith, long))
StopsAt-more_octets zero p text (octet ∷ octets) rest before one more few full long =
    StopsAt-past_octets p text octet (octets ++ rest) before one few (omega (arith, full))
StopsAt-more_octets (suc left) p text (octet ∷ octets) rest before one more few full long =
    rw (← append_assoc text (octet ∷ []) (octets ++ rest))
    (StopsAt-more_octets left p (text ++ octet ∷ []) octets rest before (IsOneLine-push text octet one more.0) more.1 few (omega (arith, full, length-append text (octet ∷ []))) (omega (arith, long)))

-- memory ran out in a turn
TellsPart-turned : (t : Turn) (p : Place) (row : Row) (others : List Row) (before after : List ℕ) → turn p row ≡ t → TellsPart (lines_of t) before after → StopsAt stops.Memory (replay_from p (row ∷ others)) before after
TellsPart-turned (Goes world lines) p row others before after e h =
    let r = replay_from (behind p row world) others in
    rw (replay-goes p row others world lines e) (min h.0 (length lines), rw (append_assoc, take-shorter h.0 lines (r.lines ++ r.further)) h.1)
TellsPart-turned (Stops ending further) p row others before after e h = rw (replay-stops p row others ending further e) h

-- a turn stopped
pub StopsAt-turned : (stop : Stop) (p : Place) (row : Row) (others : List Row) (now : Standing) (before after : List ℕ) → Turns (Err stop) (turn p row) now before after → StopsAt stop (replay_from p (row ∷ others)) before after
StopsAt-turned (stops.Script line) p row others now before after h =
    rw (replay-stops p row others (Refused line) [] h.0, h.1) (refl, Tells-none before)
StopsAt-turned (stops.Limit line number) p row others now before after h =
    rw (replay-stops p row others (Limited line number) h.further h.stops) (refl, h.told)
StopsAt-turned stops.Memory p row others now before after h = TellsPart-turned (turn p row) p row others before after refl h

-- a turn went on
pub Passes-turned : (p : Place) (row : Row) (others : List Row) (now : Standing) (before after : List ℕ) → GoesOn (turn p row) now before after → Passes (replay_from p (row ∷ others)) (replay_from (behind p row (world_of now)) others) before after
Passes-turned p row others now before after h =
    rw h.stands (record { lines = h.lines; whole = replay-goes p row others h.world h.lines h.goes; told = h.told })

-- the last turn went on
pub Passes-last : (p : Place) (row : Row) (now : Standing) (before after : List ℕ) → GoesOn (turn p row) now before after → Passes (replay_from p (row ∷ [])) (completed (world_of now)) before after
Passes-last p row now before after h =
    rw h.stands (record { lines = h.lines; whole = replay-goes p row [] h.world h.lines h.goes ∙ ap (ahead_of h.lines) (replay-ended (behind p row h.world)); told = h.told })

-- there was no last turn
Passes-ended : (p : Place) (before : List ℕ) → Passes (replay_from p []) (completed p.world) before before
Passes-ended p before = rw replay-ended (Passes-none (completed p.world) before)

pub Passes-empty : (p : Place) (text before : List ℕ) → length text ≡ 0 → Passes (replay_from p (rows (text ++ []))) (completed p.world) before before
Passes-empty p [] before h = Passes-ended p before
Passes-empty p (octet ∷ text) before h = absurd (omega arith)

-- the last line had no line feed
pub Passes-open : (result : Result (Unit {0}) Stop) (p : Place) (text : List ℕ) (now : Standing) (before after : List ℕ) → IsOneLine text → 0 < length text → Turns result (turn p (record { text = text; ended = false })) now before after → OnOk result (Passes (replay_from p (rows (text ++ []))) (completed (world_of now)) before after)
Passes-open (Err stop) p text now before after one some h = tt
Passes-open (Ok done) p [] now before after one some h = absurd (omega arith)
Passes-open (Ok done) p (octet ∷ text) now before after one some h =
    rw (append-nil text, rows-open octet text one) (Passes-last p (record { text = octet ∷ text; ended = false }) now before after h)

-- behind the last line the journals were told
pub Ends-told : (r : Replay) (w : World) (before mid after : List ℕ) → Passes r (completed w) before mid → Tells (last_lines w) mid after → Ends r before after
Ends-told r w before mid after h k =
    rw h.whole (record { ending = refl; told = Tells-trans h.lines (last_lines w) before mid after h.told k })

-- or some of them, and then memory ran out
pub StopsAt-told : (r : Replay) (w : World) (before mid after : List ℕ) → Passes r (completed w) before mid → TellsPart (last_lines w) mid after → StopsAt stops.Memory r before after
StopsAt-told r w before mid after h k =
    StopsAt-passed stops.Memory r (completed w) before mid after h (rw append-nil k)

pub StopsAt-open : (result : Result (Unit {0}) Stop) (p : Place) (text : List ℕ) (now : Standing) (before after : List ℕ) → IsOneLine text → 0 < length text → Turns result (turn p (record { text = text; ended = false })) now before after → IfErr result (λ stop. StopsAt stop (replay_from p (rows (text ++ []))) before after)
StopsAt-open (Ok done) p text now before after one some h = tt
StopsAt-open (Err stop) p [] now before after one some h = absurd (omega arith)
StopsAt-open (Err stop) p (octet ∷ text) now before after one some h =
    rw (append-nil text, rows-open octet text one) (StopsAt-turned stop p (record { text = octet ∷ text; ended = false }) [] now before after h)

-- a line with its line feed
pub Passes-fed : (result : Result (Unit {0}) Stop) (p q : Player) (text before after : List ℕ) → IsOneLine text → p.line.items ≡ [] → Turns result (turn (place_of p) (row_of text true)) q.world before after
    → q.line.items ≡ [] → OnOk result (q.lines ≡ p.lines + 1) → OnOk result (q.octets ≡ p.octets + size (row_of text true))
    → OnOk result ((rest : List ℕ) → Passes (left p ((text ++ 10 ∷ []) ++ rest)) (left q rest) before after)
Passes-fed (Err stop) p q text before after one none h emptied counted measured = tt
Passes-fed (Ok done) p q text before after one none h emptied counted measured =
    λ rest. rw (none, append_assoc text (10 ∷ []) rest, rows-ended text rest one, emptied, counted, measured) (Passes-turned (place_of p) (row_of text true) (rows rest) q.world before after h)

pub StopsAt-fed : (result : Result (Unit {0}) Stop) (p : Player) (text : List ℕ) (now : Standing) (before after : List ℕ) → IsOneLine text → p.line.items ≡ [] → Turns result (turn (place_of p) (row_of text true)) now before after → IfErr result (λ stop. (rest : List ℕ) → StopsAt stop (left p ((text ++ 10 ∷ []) ++ rest)) before after)
StopsAt-fed (Ok done) p text now before after one none h = tt
StopsAt-fed (Err stop) p text now before after one none h =
    λ rest. rw (none, append_assoc text (10 ∷ []) rest, rows-ended text rest one) (StopsAt-turned stop (place_of p) (row_of text true) (rows rest) now before after h)
