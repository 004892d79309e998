-- Lines that are told one after the other.
use Rattle.std.proofs.Common.{◌≡◌, ℕ, ◌+◌, min, List, [], ◌++◌, length, take, drop, refl, sym, ap, ◌∙◌, append_assoc, arith}
use Rattle.std.proofs.lemmas.Grind.{common_steps, flat_map-append}
use Rattle.std.proofs.lemmas.List.{take-append-drop}
use Rattle.std.proofs.Math.Seq.{take-append-add}
use Rattle.nodes_world.specs.Told.{Told, spelled, text}
use Rattle.nodes_state.specs.Telling.{Tells}
use Rattle.ots_program.specs.declared.player.Stop.{Stop}
use Rattle.ots_program.specs.declared.player.Stop.TheVariants as stops
use Rattle.ots_program.specs.PlayingInside.{Passes, StopsAt, Ends}
use Rattle.ots_program.specs.Replay.{Replay, ahead_of}

pub text-append : (xs ys : List Told) → text (xs ++ ys) ≡ text xs ++ text ys
text-append xs ys = flat_map-append spelled xs ys

text-split : (k : ℕ) (lines : List Told) → text lines ≡ text (take k lines) ++ text (drop k lines)
text-split k lines = ap text (sym (take-append-drop k lines)) ∙ text-append (take k lines) (drop k lines)

pub Tells-trans : (xs ys : List Told) (before mid after : List ℕ) → Tells xs before mid → Tells ys mid after → Tells (xs ++ ys) before after
Tells-trans xs ys before mid after h k = rw (k, h, text-append xs ys, append_assoc) refl

-- a front of some things is a front of them and more
pub take-shorter : {A : Type 0} (n : ℕ) (xs ys : List A) → take (min n (length xs)) (xs ++ ys) ≡ take n xs
take-shorter n xs ys = grind (arith, common_steps)

-- nothing was told
pub Tells-none : (before : List ℕ) → Tells [] before before
Tells-none before = grind (arith, common_steps)

pub Passes-none : (r : Replay) (before : List ℕ) → Passes r r before before
Passes-none r before = record { lines = []; whole = refl; told = Tells-none before }

-- lines, then further ones, and then a replay
pub ahead_of-twice : (xs ys : List Told) (r : Replay) → ahead_of xs (ahead_of ys r) ≡ ahead_of (xs ++ ys) r
ahead_of-twice xs ys r = rw (← append_assoc xs ys r.lines, ← append_assoc xs ys r.told) refl

pub Passes-trans : (r s t : Replay) (before mid after : List ℕ) → Passes r s before mid → Passes s t mid after → Passes r t before after
Passes-trans r s t before mid after h k =
    record { lines = h.lines ++ k.lines; whole = h.whole ∙ ap (ahead_of h.lines) k.whole ∙ ahead_of-twice h.lines k.lines t; told = Tells-trans h.lines k.lines before mid after h.told k.told }

-- where it passes on to a replay that stops, it stops
StopsAt-ahead : (stop : Stop) (lines : List Told) (r : Replay) (before mid after : List ℕ) → Tells lines before mid → StopsAt stop r mid after → StopsAt stop (ahead_of lines r) before after
StopsAt-ahead (stops.Script line) lines r before mid after h k = (k.0, Tells-trans lines r.lines before mid after h k.1)
StopsAt-ahead (stops.Limit line number) lines r before mid after h k =
    (k.0, (k.1.0, rw append_assoc (Tells-trans lines (r.lines ++ take k.1.0 r.further) before mid after h k.1.1)))
StopsAt-ahead stops.Memory lines r before mid after h k =
    (length lines + k.0, rw (append_assoc, take-append-add lines (r.lines ++ r.further) k.0) (Tells-trans lines (take k.0 (r.lines ++ r.further)) before mid after h k.1))

pub StopsAt-passed : (stop : Stop) (r s : Replay) (before mid after : List ℕ) → Passes r s before mid → StopsAt stop s mid after → StopsAt stop r before after
StopsAt-passed stop r s before mid after h k = rw h.whole (StopsAt-ahead stop h.lines s before mid after h.told k)

-- a text is a front of what a replay may tell
pub record IsFront (told : List ℕ) (r : Replay) : Type 0 where
  pub rest : List ℕ
  pub split : text (r.lines ++ r.further) ≡ told ++ rest

pub IsFront-ahead : (lines : List Told) (r : Replay) → IsFront (text lines) (ahead_of lines r)
IsFront-ahead lines r = record { rest = text (r.lines ++ r.further); split = rw append_assoc (text-append lines (r.lines ++ r.further)) }

pub IsFront-passed : (r s : Replay) (told : List ℕ) → Passes r s [] told → IsFront told r
IsFront-passed r s told h = rw (h.told, h.whole) (IsFront-ahead h.lines s)

pub IsFront-stopped : (stop : Stop) (r : Replay) (told : List ℕ) → StopsAt stop r [] told → IsFront told r
IsFront-stopped (stops.Script line) r told h = record { rest = text r.further; split = rw h.1 (text-append r.lines r.further) }
IsFront-stopped (stops.Limit line number) r told h =
    record { rest = text (drop h.1.0 r.further); split = rw (h.1.1, text-append r.lines r.further, text-append r.lines (take h.1.0 r.further), text-split h.1.0 r.further, append_assoc) refl }
IsFront-stopped stops.Memory r told h = record { rest = text (drop h.0 (r.lines ++ r.further)); split = rw h.1 (text-split h.0 (r.lines ++ r.further)) }

pub IsFront-ended : (r : Replay) (told : List ℕ) → Ends r [] told → IsFront told r
IsFront-ended r told h = record { rest = text r.further; split = rw h.told (text-append r.lines r.further) }
