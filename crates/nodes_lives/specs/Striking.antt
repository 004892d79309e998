-- What a stop inside an append leaves of a disk (our profile).
use Rattle.std.specs.Prelude.{ℕ, nat_le, List, if◌then◌else◌}
use Rattle.nodes_world.specs.Disks.{left_by}
use Rattle.nodes_parts.specs.Striking.{in_first, in_second}
use Rattle.nodes_parts.specs.declared.disks.Appended.{Appended}
use Rattle.nodes_parts.specs.declared.disks.Stop.{Stop}

-- in its first write, or in its second
abbrev pub left_in : Appended → Stop → List ℕ
left_in a s = if nat_le s.write 1 then left_by s.image (in_first a) else left_by s.image (in_second a)
