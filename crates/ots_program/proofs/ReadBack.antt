-- Each line that a replay tells can be read, and so what is read in its text is safe.
use Rattle.std.proofs.Common.{◌≡◌, ℕ, List, [], ◌++◌, take, drop, Option, Some, None, IfSome, sym, ap, ◌∙◌, append_assoc, append-nil, arith}
use Rattle.std.proofs.lemmas.List.{append_cancel_left, take-append-drop}
use Rattle.ots_model.specs.LineLaws.{HasNoLineFeed}
use Rattle.nodes_world.specs.Told.{Told, text}
use Rattle.ots_program.specs.Answers.{TakesFront}
use Rattle.ots_program.specs.Laws.{WorldsAgree}
use Rattle.ots_program.specs.ReadBack.{ReadsSafely, WhatIsReadIsSafe}
use Rattle.ots_program.specs.Replay.{replay}
use Rattle.ots_program.proofs.Agreed.{replay-right}

no_feed : HasNoLineFeed []
no_feed = λ k d low. absurd (omega (arith, low))

pub read_safe : WorldsAgree → WhatIsReadIsSafe
read_safe law octets some behind is numbers e =
    let all : List Told = (replay octets).lines ++ (replay octets).further in
    let right = replay-right law octets in
    law.read all some [] behind right.read is numbers no_feed (append-nil (text all) ∙ e) right.safe

-- what a sink has taken of a replay is a front of its text
reads_safely : WorldsAgree → (octets taken : List ℕ) (after : Option (List ℕ)) → TakesFront ((replay octets).lines ++ (replay octets).further) taken after
    → ReadsSafely taken after
reads_safely law octets taken after front some behind is numbers e =
    let whole : List ℕ = text ((replay octets).lines ++ (replay octets).further) in
    let same : taken ++ take front.0 whole ≡ taken ++ (text some ++ behind) = inner (taken ++ take front.0 whole) (taken ++ (text some ++ behind)) (sym front.1 ∙ e) in
    let begins : take front.0 whole ≡ text some ++ behind = append_cancel_left taken (take front.0 whole) (text some ++ behind) same in
    read_safe law octets some (behind ++ drop front.0 whole) is numbers
    (sym (take-append-drop front.0 whole) ∙ ap (λ (some : List ℕ). some ++ drop front.0 whole) begins ∙ append_assoc (text some) behind (drop front.0 whole))
  where
    inner : (x y : List ℕ) → Some x ≡ Some y → x ≡ y
    inner x y is = cc

pub IfSome-read : WorldsAgree → (octets : List ℕ) (before after : Option (List ℕ))
    → IfSome before (λ taken. TakesFront ((replay octets).lines ++ (replay octets).further) taken after) → IfSome before (λ taken. ReadsSafely taken after)
IfSome-read law octets None after h = tt
IfSome-read law octets (Some taken) after h = reads_safely law octets taken after h
