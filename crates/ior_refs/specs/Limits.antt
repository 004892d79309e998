-- The numbers of references.
use Rattle.std.specs.Prelude.{ℕ}

-- how many profiles a reference has at most, and components a profile (our profile); the limit of its octets allows
-- fewer
abbrev pub count_limit : ℕ
count_limit = 65536

-- the tag of an IIOP profile (CORBA, Interoperable Object References: TAG_INTERNET_IOP)
abbrev pub iiop_tag : ℕ
iiop_tag = 0
