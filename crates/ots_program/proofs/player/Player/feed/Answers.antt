use Rattle.std.proofs.Common.{◌≡◌, ℕ, ◌+◌, List, [], ◌∷◌, ◌++◌, take, drop, sym, ap, ◌∙◌, append_assoc}
use Rattle.std.proofs.lemmas.Result.{err_from_is_err_and}
use Rattle.ots_program.proofs.Ends.{first_feed, no_feed}
use Rattle.ots_program.proofs.Fed.{IsFed-trans, fed_whole, stopped_in, stopped_whole}
use Rattle.ots_program.proofs.player.Player.feed.Goals as goal

pub take_front-requires-clause-one_line : goal.take_front-requires-clause-one_line
take_front-requires-clause-one_line c = (first_feed c.loop-end.rest.now c.in-Some.end (sym c.in-Some.ensures)).one_line

pub behind-rest-requires : goal.behind-rest-requires
behind-rest-requires c = (first_feed c.loop-end.rest.now c.in-Some.end (sym c.in-Some.ensures)).within

pub take_part-requires-clause-one_line : goal.take_part-requires-clause-one_line
take_part-requires-clause-one_line c = no_feed c.loop-end.rest.now (sym c.in_default.ensures)

-- a piece of which a front was fed, by the line in front of the next line feed
split_at : (piece fed rest : List ℕ) (end : ℕ) → piece ≡ fed ++ rest → rest ≡ (take end rest ++ 10 ∷ []) ++ drop (end + 1) rest
    → piece ≡ fed ++ ((take end rest ++ 10 ∷ []) ++ drop (end + 1) rest)
split_at piece fed rest end split parts = split ∙ ap (λ (octets : List ℕ). fed ++ octets) parts

pub returns-in_err-take_front-clause-stops : goal.returns-in_err-take_front-clause-stops
returns-in_err-take_front-clause-stops c =
    let p = err_from_is_err_and c.from_residual.result c.from_residual.ensures.1 in
    let f = first_feed c.loop-end.rest.now c.in-Some.end (sym c.in-Some.ensures) in
    rw (p.1, p.2) (stopped_in _ c.args.self.now c.loop-end.self c.take_front.new.self _ _ _ _ (split_at _ _ _ _ c.loop-end.invariant.1 f.parts) c.loop-end.invariant.2 c.in_err-take_front.ensures.stops)

pub loop-end-preserved : goal.loop-end-preserved
loop-end-preserved c =
    let f = first_feed c.loop-end.rest.now c.in-Some.end (sym c.in-Some.ensures) in
    let line : List ℕ = take c.in-Some.end c.loop-end.rest.now ++ 10 ∷ [] in (
      c.loop-end.invariant.0 ++ line,
      rw (c.behind-rest.ensures, append_assoc c.loop-end.invariant.0 line (drop (c.in-Some.end + 1) c.loop-end.rest.now))
          (split_at _ _ _ _ c.loop-end.invariant.1 f.parts),
      IsFed-trans _ _ _ _ _ c.loop-end.invariant.2 c.in_ok-take_front.ensures.fed,
    )

pub returns-clause-fed : goal.returns-clause-fed
returns-clause-fed c = fed_whole c.take_part.result c.args.self.now c.loop-end.self c.take_part.new.self c.args.piece.now _ _ c.loop-end.invariant.1 c.loop-end.invariant.2 c.take_part.ensures.fed

pub returns-clause-stops : goal.returns-clause-stops
returns-clause-stops c = stopped_whole c.take_part.result c.args.self.now c.loop-end.self c.take_part.new.self c.args.piece.now _ _ c.loop-end.invariant.1 c.loop-end.invariant.2 c.take_part.ensures.stops
