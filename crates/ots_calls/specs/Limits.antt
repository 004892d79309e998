-- The numbers of calls (our profile).
use Rattle.std.specs.Prelude.{ℕ}

-- how many octets a body may have behind the values of its call
abbrev pub left_limit : ℕ
left_limit = 7

-- the context_id of a retry key
abbrev pub retry_context : ℕ
retry_context = 1330926080
