-- The limits of a resource end, and the letters of its objects' keys (our profile).
use Rattle.std.specs.Prelude.{ℕ}

-- how many resources may be unfinished at once
abbrev pub unfinished_limit : ℕ
unfinished_limit = 4096

-- how many cells one resource may put
abbrev pub cell_limit : ℕ
cell_limit = 1024

-- how many objects may be made in one life
abbrev pub object_limit : ℕ
object_limit = 281474976710656

-- the letter of a resource: R
abbrev pub resource_kind : ℕ
resource_kind = 82

-- that of a resource which is aware of subtransactions: A
abbrev pub aware_kind : ℕ
aware_kind = 65

-- that of a synchronization: Y
abbrev pub synchronization_kind : ℕ
synchronization_kind = 89
