-- Which messages are short: only those are looked at (our profile).
use Rattle.std.specs.Prelude.{◌&&◌, ℕ, Bool, true, nat_le, List, length}
use Rattle.std.specs.List.{list_all}
use Rattle.giop_frames.specs.declared.message.Request.{Request}
use Rattle.giop_frames.specs.declared.message.ServiceContext.{ServiceContext}
use Rattle.giop_frames.specs.declared.message.Target.{Target}
use Rattle.giop_frames.specs.declared.message.Target.TheVariants.{Key}

-- a list of octets in a message has at most a million, and there are 16 contexts at most
abbrev pub is_short_list : List ℕ → Bool
is_short_list octets = nat_le (length octets) 1000000

abbrev pub is_short_target : Target → Bool
is_short_target (Key octets) = is_short_list octets
is_short_target target = true

abbrev pub are_short : List ServiceContext → Bool
are_short contexts = nat_le (length contexts) 16 && list_all (λ (c : ServiceContext). is_short_list c.bytes) contexts

abbrev pub is_short : Request → Bool
is_short r = is_short_list r.operation && is_short_list r.body && is_short_target r.target && are_short r.contexts
