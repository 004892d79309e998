-- The numbers of otids (our profile).
use Rattle.std.specs.Prelude.{ℕ}

-- how many octets a tid has at most
abbrev pub tid_limit : ℕ
tid_limit = 128

-- the formatID of our own otids, the letters OTS1
abbrev pub own_format : ℕ
own_format = 1330926385

-- how many octets the tid of our own otids has
abbrev pub own_length : ℕ
own_length = 24

-- how many of them are the branch qualifier
abbrev pub own_bqual : ℕ
own_bqual = 4
