-- Octets that are fed to a player, some after others.
use Rattle.std.proofs.Common.{◌≡◌, ◌+◌, ◌<◌, ◌≤◌, ℕ, List, [], ◌∷◌, ◌++◌, true, length, Result, Ok, Err, OnOk, refl, append_assoc, length-append, IfErr, sym, ap, subst, arith}
use Rattle.ots_program.specs.declared.player.Player.{Player}
use Rattle.ots_program.specs.declared.player.Stop.{Stop}
use Rattle.ots_program.specs.Limits.{lines_limit, octets_limit}
use Rattle.ots_program.specs.PlayingInside.{GoesOn, IsEmptied, IsFed, IsOneLine, Plays, StopsIn, Turns, left, place_of, row_of}
use Rattle.ots_program.specs.Replay.{size, turn}
use Rattle.ots_program.proofs.Told.{Passes-trans, StopsAt-passed}
use Rattle.ots_program.proofs.Turned.{Passes-fed}

pub IsFed-trans : (a b c : Player) (xs ys : List ℕ) → IsFed a b xs → IsFed b c ys → IsFed a c (xs ++ ys)
IsFed-trans a b c xs ys h k = record {
  plays = k.plays;
  count = omega (arith, h.count, k.count, length-append xs ys);
  passes = λ rest. rw (append_assoc xs ys rest) (Passes-trans _ _ _ _ _ _ (h.passes (ys ++ rest)) (k.passes rest));
}

-- a player that was fed octets stopped in those behind them
pub StopsIn-trans : (stop : Stop) (a b c : Player) (xs ys : List ℕ) → IsFed a b xs → StopsIn stop b c ys → StopsIn stop a c (xs ++ ys)
StopsIn-trans stop a b c xs ys h k = λ rest. rw (append_assoc xs ys rest) (StopsAt-passed stop _ _ _ _ _ (h.passes (ys ++ rest)) (k rest))

-- a player that stopped in octets stops in them with more behind them
pub StopsIn-longer : (stop : Stop) (a b : Player) (xs ys : List ℕ) → StopsIn stop a b xs → StopsIn stop a b (xs ++ ys)
StopsIn-longer stop a b xs ys h = λ rest. rw (append_assoc xs ys rest) (h (ys ++ rest))

-- behind a line the player plays on
Plays-line : (p q : Player) (text before after : List ℕ) → p.lines < lines_limit → p.octets + size (row_of text true) ≤ octets_limit → GoesOn (turn (place_of p) (row_of text true)) q.world before after
    → q.line.items ≡ [] → q.lines ≡ p.lines + 1 → q.octets ≡ p.octets + size (row_of text true) → Plays q
Plays-line p q text before after few short goes emptied counted measured = record {
  stands = rw goes.stands refl;
  one_line = rw emptied tt;
  octets = rw (emptied, measured) (omega arith);
  lines = omega arith;
  begun = λ some. absurd (some emptied);
}

-- a line came, with its line feed
pub IsFed-line : (result : Result (Unit {0}) Stop) (p q : Player) (text : List ℕ) → IsOneLine text → p.line.items ≡ [] → p.lines < lines_limit → p.octets + length text < octets_limit
    → Turns result (turn (place_of p) (row_of text true)) q.world p.output.items q.output.items
    → q.line.items ≡ [] → OnOk result (q.lines ≡ p.lines + 1) → OnOk result (q.octets ≡ p.octets + size (row_of text true))
    → OnOk result (IsFed p q (text ++ 10 ∷ []))
IsFed-line (Err stop) p q text one none few short turned emptied counted measured = tt
IsFed-line (Ok done) p q text one none few short turned emptied counted measured = record {
  plays = Plays-line p q text _ _ few (omega arith) turned emptied counted measured;
  count = rw (none, emptied, measured) (omega (arith, length-append text (10 ∷ [])));
  passes = Passes-fed (Ok done) p q text _ _ one none turned emptied counted measured;
}

-- ---- a line that came in several pieces

pub Plays-emptied : (p q : Player) → Plays p → IsEmptied p q → Plays q
Plays-emptied p q h e = record {
  stands = rw e.world h.stands;
  one_line = rw e.line tt;
  octets = rw (e.line, e.octets) (omega (arith, h.octets));
  lines = omega (arith, h.lines, e.lines);
  begun = λ some. absurd (some e.line);
}

pub place_kept : (p q : Player) → IsEmptied p q → place_of q ≡ place_of p
place_kept p q e = rw (e.world, e.lines, e.octets) refl

-- what was taken out of a player comes again, with more behind it
again : (p q : Player) (more rest : List ℕ) → IsEmptied p q → left q ((p.line.items ++ more) ++ rest) ≡ left p (more ++ rest)
again p q more rest e = rw (e.world, e.lines, e.octets, e.line, append_assoc p.line.items more rest) refl

fed_again : (p q r : Player) (more : List ℕ) → IsEmptied p q → IsFed q r (p.line.items ++ more) → IsFed p r more
fed_again p q r more e h = record {
  plays = h.plays;
  count = omega (arith, h.count, e.octets, ap (λ (xs : List ℕ). length xs) e.line, length-append p.line.items more);
  passes = λ rest. rw (again p q more rest e, e.output) at (h.passes rest);
}

pub fed_joined : (result : Result (Unit {0}) Stop) (a p q r : Player) (octets text more : List ℕ) → IsFed a p octets → IsEmptied p q → text ≡ p.line.items → OnOk result (IsFed q r (text ++ more))
    → OnOk result (IsFed a r (octets ++ more))
fed_joined (Err stop) a p q r octets text more h e same k = tt
fed_joined (Ok done) a p q r octets text more h e same k = IsFed-trans a p r octets more h (fed_again p q r more e (rw same at k))

pub stopped_joined : (result : Result (Unit {0}) Stop) (a p q r : Player) (octets text more : List ℕ) → IsFed a p octets → IsEmptied p q → text ≡ p.line.items → IfErr result (λ stop. StopsIn stop q r (text ++ more))
    → IfErr result (λ stop. StopsIn stop a r (octets ++ more))
stopped_joined (Ok done) a p q r octets text more h e same k = tt
stopped_joined (Err stop) a p q r octets text more h e same k =
    StopsIn-trans stop a p r octets more h (λ rest. rw (again p q more rest e, e.output) at ((rw same at k) rest))

-- what is left of a piece is fed behind what was fed of it
pub stopped_in : (stop : Stop) (a b c : Player) (piece fed part more : List ℕ) → piece ≡ fed ++ (part ++ more) → IsFed a b fed → StopsIn stop b c part → StopsIn stop a c piece
stopped_in stop a b c piece fed part more split h k =
    subst (λ (octets : List ℕ). StopsIn stop a c octets) (sym split) (StopsIn-trans stop a b c fed (part ++ more) h (StopsIn-longer stop b c part more k))

pub fed_whole : (result : Result (Unit {0}) Stop) (a b c : Player) (piece fed rest : List ℕ) → piece ≡ fed ++ rest → IsFed a b fed → OnOk result (IsFed b c rest) → OnOk result (IsFed a c piece)
fed_whole (Err stop) a b c piece fed rest split h k = tt
fed_whole (Ok done) a b c piece fed rest split h k = subst (λ (octets : List ℕ). IsFed a c octets) (sym split) (IsFed-trans a b c fed rest h k)

pub stopped_whole : (result : Result (Unit {0}) Stop) (a b c : Player) (piece fed rest : List ℕ) → piece ≡ fed ++ rest → IsFed a b fed → IfErr result (λ stop. StopsIn stop b c rest) → IfErr result (λ stop. StopsIn stop a c piece)
stopped_whole (Ok done) a b c piece fed rest split h k = tt
stopped_whole (Err stop) a b c piece fed rest split h k = subst (λ (octets : List ℕ). StopsIn stop a c octets) (sym split) (StopsIn-trans stop a b c fed rest h k)
