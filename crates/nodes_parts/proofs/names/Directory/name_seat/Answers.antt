use Rattle.std.proofs.Common.{sym, ap, ◌∙◌, ◌++◌, [], ◌∷◌}
use Rattle.indexmap.proofs.CallerLemmas.{insert_entry-new}
use Rattle.nodes_world.specs.World.{thing_in}
use Rattle.nodes_world.specs.declared.thing.Thing.TheVariants as things
use Rattle.nodes_parts.specs.Naming.{name_of_key}
use Rattle.nodes_parts.proofs.NameLemmas.{same_padded, lookup-thing, seat_named}
use Rattle.nodes_parts.proofs.names.Directory.name_seat.Goals as goal

pub invariant_of-self-2 : goal.invariant_of-self-2
invariant_of-self-2 c = λ key.
    let before = c.self.inside.things in
    let name = c.args.name.now in
    let free = lookup-thing before.entries name ∙ ap (λ n. thing_in n.things name) c.self.view_is ∙ c.requires.free in
    let added = c.in_ok-insert.ensures.entries ∙ insert_entry-new same_padded before name (things.Seat c.args.place) free in
    c.self.invariant key ∙ sym (ap (λ some. name_of_key some key) added ∙ seat_named before.entries name c.args.place key)

pub returns-clause-things : goal.returns-clause-things
returns-clause-things c =
    let before = c.self.inside.things in
    let name = c.args.name.now in
    let free = lookup-thing before.entries name ∙ ap (λ n. thing_in n.things name) c.self.view_is ∙ c.requires.free in
    c.in_ok-insert.ensures.entries ∙ insert_entry-new same_padded before name (things.Seat c.args.place) free
    ∙ ap (λ n. n.things ++ (name, things.Seat c.args.place) ∷ []) c.self.view_is
