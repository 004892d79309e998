use Rattle.std.proofs.Common.{◌≡◌, ◌≤◌, ◌∙◌, arith, ap, sym, length}
use Rattle.cdr_values.specs.Writing.{Writing}
use Rattle.ots_context.specs.Writing.{with_context, with_tail}
use Rattle.ots_context.proofs.Again.{front_order, front_start, front_of}
use Rattle.ots_context.proofs.Placing.{few_parents}
use Rattle.ots_context.proofs.Room.{current_room, parents_room}
use Rattle.ots_context.proofs.encoding.write_context.Goals as goal

pub write_parents-requires-clause-room : goal.write_parents-requires-clause-room
write_parents-requires-clause-room c =
    omega (arith, ap (λ (w : Writing). length w.octets) c.in_ok-write_current.ensures.ok, current_room c.args.writer.now c.args.c.now c.requires.front c.in_ok-write_current.ensures.current)

pub write_tail-requires-clause-big : goal.write_tail-requires-clause-big
write_tail-requires-clause-big c =
    let front = front_of c.args.writer.now c.args.c.now c.write_current.new.writer c.write_parents.new.writer c.items-parents.result.now c.in_ok-write_current.ensures.ok c.items-parents.ensures.same c.in_ok-write_parents.ensures.ok in
    ap (λ (w : Writing). w.order) front ∙ front_order c.args.writer.now c.args.c.now ∙ c.requires.big

pub write_tail-requires-clause-start : goal.write_tail-requires-clause-start
write_tail-requires-clause-start c =
    let front = front_of c.args.writer.now c.args.c.now c.write_current.new.writer c.write_parents.new.writer c.items-parents.result.now c.in_ok-write_current.ensures.ok c.items-parents.ensures.same c.in_ok-write_parents.ensures.ok in
    ap (λ (w : Writing). w.start) front ∙ front_start c.args.writer.now c.args.c.now ∙ c.requires.start

pub returns-clause-exact : goal.returns-clause-exact
returns-clause-exact c =
    let front = front_of c.args.writer.now c.args.c.now c.write_current.new.writer c.write_parents.new.writer c.items-parents.result.now c.in_ok-write_current.ensures.ok c.items-parents.ensures.same c.in_ok-write_parents.ensures.ok in
    let few : length c.args.c.now.parents ≤ 16 = omega (arith, ap length c.items-parents.ensures.same) in
    let whole : with_context c.args.writer.now c.args.c.now ≡ with_tail c.write_parents.new.writer c.args.c.now.tail = few_parents c.args.writer.now c.args.c.now few ∙ ap (λ (w : Writing). with_tail w c.args.c.now.tail) (sym front) in
    rw whole c.write_tail.ensures

pub write_tail-requires-clause-few : goal.write_tail-requires-clause-few
write_tail-requires-clause-few c =
    let before : length c.write_current.new.writer.octets ≤ 3837 = omega (arith, ap (λ (w : Writing). length w.octets) c.in_ok-write_current.ensures.ok, current_room c.args.writer.now c.args.c.now c.requires.front c.in_ok-write_current.ensures.current) in
    let few : length c.items-parents.result.now ≤ 16 = omega arith in
    parents_room c.write_current.new.writer c.write_parents.new.writer c.items-parents.result.now before few c.in_ok-write_parents.ensures.parents c.in_ok-write_parents.ensures.ok
