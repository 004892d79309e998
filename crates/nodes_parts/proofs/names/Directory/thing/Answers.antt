use Rattle.std.proofs.Common.{ap, ◌∙◌}
use Rattle.nodes_world.specs.World.{thing_in}
use Rattle.nodes_parts.proofs.NameLemmas.{lookup-thing}
use Rattle.nodes_parts.proofs.names.Directory.thing.Goals as goal

pub returns : goal.returns
returns c = record {
  thing = c.copied.ensures ∙ c.get.ensures.value ∙ lookup-thing c.self.inside.things.entries c.args.name.now
      ∙ ap (λ n. thing_in n.things c.args.name.now) c.self.view_is;
}
