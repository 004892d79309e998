-- Where an end stands that many share (our profile).
use Rattle.std.specs.Arc.{arc_value}
use Rattle.end_room.specs.Place.{EndPlace}
use Rattle.end_room.specs.declared.shared_end.SharedEnd.{SharedEnd}

abbrev pub place_of : {R D : Type 0} → SharedEnd R D → EndPlace
place_of s = record { at = (arc_value s.shared).at; service = (arc_value s.shared).service }
