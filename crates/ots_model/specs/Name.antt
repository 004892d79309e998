-- Names (our profile).
use Rattle.std.specs.Prelude.{ℕ, Bool, false, ◌&&◌, ◌||◌, nat_le, nat_lt, List, [], ◌∷◌, length, IsTrue}
use Rattle.std.specs.List.{list_all}
use Rattle.ots_model.specs.Limits.{name_limit}

-- a small letter
abbrev pub is_letter : ℕ → Bool
is_letter b = nat_le 97 b && nat_le b 122

-- a digit
abbrev pub is_digit : ℕ → Bool
is_digit b = nat_le 48 b && nat_le b 57

-- what stands behind the first letter of a name
abbrev pub is_name_octet : ℕ → Bool
is_name_octet b = is_letter b || is_digit b

-- a letter, and letters and digits behind it, up to the limit in all
abbrev pub is_name : List ℕ → Bool
is_name [] = false
is_name (b ∷ bs) = is_letter b && list_all is_name_octet bs && nat_lt (length bs) name_limit

-- the octets are a name
abbrev pub IsName : List ℕ → Type 0
IsName octets = IsTrue (is_name octets)
