-- Which calls a disk is asked, in order (our profile).
use Rattle.std.specs.Prelude.{◌≡◌, ℕ, ◌⊎◌, Bool, true, false, List, [], ◌∷◌, ◌++◌}

-- a call of a disk: for its length, to read so many octets from a place on, to write octets from a place on, and to sync
pub data DiskCall : Type 0 where
  AskLength : DiskCall
  AskRead : ℕ → ℕ → DiskCall
  AskWrite : ℕ → List ℕ → DiskCall
  AskSync : DiskCall

module _ {D : Type 0} (asked : D → DiskCall → Bool → D → Type 0) where
  -- a disk was asked these calls, in order and no other, and answered each Ok
  abbrev pub HasAnswered : List DiskCall → D → D → Type 0
  HasAnswered [] before after = after ≡ before
  HasAnswered (call ∷ calls) before after = (between : D) × (asked before call true between × HasAnswered calls between after)

  -- the first of these calls was refused
  abbrev pub HasRefused : List DiskCall → D → D → Type 0
  HasRefused [] before after = ⊥
  HasRefused (call ∷ calls) before after = asked before call false after

  -- a disk was asked the first of these calls, in order and no other, and answered each Ok, or all but the last one
  pub record HasBegun (calls : List DiskCall) (before after : D) : Type 0 where
    pub made : List DiskCall
    pub left : List DiskCall
    pub calls_are : calls ≡ made ++ left
    pub between : D
    pub answered : HasAnswered made before between
    pub last : (after ≡ between) ⊎ HasRefused left between after

  -- all of these calls, or the first of them
  abbrev pub IsAsked : Bool → List DiskCall → D → D → Type 0
  IsAsked true calls before after = HasAnswered calls before after
  IsAsked false calls before after = HasBegun calls before after
