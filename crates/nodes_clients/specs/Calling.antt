-- A client's call as it goes out (our profile).
use Rattle.ior_refs.specs.declared.key.ObjectKey.{ObjectKey}
use Rattle.coordinator.specs.declared.event.Act.{Act}
use Rattle.nodes_world.specs.declared.message.Content.TheVariants as contents
use Rattle.nodes_world.specs.Clients.{called_line}
use Rattle.nodes_world.specs.Happenings.{Done, client_message}
use Rattle.nodes_world.specs.Told.{operation_of}
use Rattle.nodes_world.specs.World.{World, next_message, transaction_name, with_sent}

-- the call is sent in the next message, which is delivered at once, and its line is told
abbrev pub sends_call : ObjectKey → Act → World → Done
sends_call to act w = record {
  world = with_sent (client_message (contents.Call to act)) w;
  lines = called_line (next_message w) (operation_of act) (transaction_name w to);
}
