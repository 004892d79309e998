use Rattle.std.proofs.Common.{Some, sym, ap, ◌∙◌, ◌++◌, [], ◌∷◌}
use Rattle.std.specs.Bool.{if◌then◌else◌}
use Rattle.std.specs.Option.{option_or}
use Rattle.indexmap.proofs.CallerLemmas.{insert_entry-new}
use Rattle.nodes_world.specs.Objects.{same_transaction}
use Rattle.nodes_world.specs.World.{thing_in}
use Rattle.nodes_world.specs.declared.thing.Thing.TheVariants as things
use Rattle.nodes_parts.specs.Naming.{name_of_key}
use Rattle.nodes_parts.proofs.NameLemmas.{same_padded, lookup-thing, transaction_named}
use Rattle.nodes_parts.proofs.names.Directory.name_transaction.Goals as goal

pub invariant_of-self-2 : goal.invariant_of-self-2
invariant_of-self-2 c = λ key.
    let before = c.reserve.new.self in
    let name = c.args.name.now in
    let free = lookup-thing before.entries name ∙ ap (λ some. thing_in some name) c.reserve.ensures.entries ∙ ap (λ n. thing_in n.things name) c.self.view_is ∙ c.requires.free in
    let added = c.in_ok-insert.ensures.entries ∙ insert_entry-new same_padded before name (things.Transaction c.args.key.now) free
    ∙ ap (λ some. some ++ (name, things.Transaction c.args.key.now) ∷ []) c.reserve.ensures.entries in
    c.in_ok-add.ensures.ok key
    ∙ ap (λ o. if same_transaction c.args.key.now key then option_or o (Some name) else o) (c.self.invariant key)
    ∙ sym (ap (λ some. name_of_key some key) added ∙ transaction_named c.self.inside.things.entries name c.args.key.now key)

pub returns-clause-things : goal.returns-clause-things
returns-clause-things c =
    let before = c.reserve.new.self in
    let name = c.args.name.now in
    let free = lookup-thing before.entries name ∙ ap (λ some. thing_in some name) c.reserve.ensures.entries ∙ ap (λ n. thing_in n.things name) c.self.view_is ∙ c.requires.free in
    c.in_ok-insert.ensures.entries ∙ insert_entry-new same_padded before name (things.Transaction c.args.key.now) free
    ∙ ap (λ some. some ++ (name, things.Transaction c.args.key.now) ∷ []) (c.reserve.ensures.entries ∙ ap (λ n. n.things) c.self.view_is)
