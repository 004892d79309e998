use Rattle.std.proofs.Common.{◌≡◌, ◌+◌, Option, Some, None, true, false, refl, sym, ap, ◌∙◌, ℕ, rules}
use Rattle.std.specs.Prelude.{is_none, is_some}
use Rattle.ots_model.specs.declared.line.Line.TheVariants as lines
use Rattle.nodes_world.specs.Told.{Known}
use Rattle.nodes_state.specs.Shown.{shown}
use Rattle.nodes_state.proofs.Doing.{one_told}
use Rattle.nodes_deliveries.proofs.Delivered.{came}
use Rattle.nodes_deliveries.proofs.arriving.arrive.Goals as goal

some_where : (o : Option ℕ) → is_none o ≡ false → is_some o ≡ true
some_where (Some l) e = refl
some_where None e = absurd cc

pub returns-clause-does : goal.returns-clause-does
returns-clause-does c = λ content says.
    let there : is_none c.life.result ≡ false = first_of (cc, search rules) in
    came (shown c.args.state.now) c.args.receiver.seat (c.args.place + 1) content (shown c.reach.new.state) c.args.lines.now.items c.tell_known.new.lines.items
    c.reach.new.lines.items c.reach.result (ap (λ (o : Option ℕ). is_some o) (sym c.life.ensures) ∙ some_where c.life.result there)
    (one_told (Known (lines.Recv (c.args.place + 1))) c.args.lines.now.items c.tell_known.new.lines.items c.in_ok-tell_known.ensures)
    (c.reach.ensures.does content says)
