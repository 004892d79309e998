use Rattle.std.proofs.Common.{List, subst}
use Rattle.std.specs.Prelude.{IfErr}
use Rattle.giop_frames.specs.declared.layout.Version.{Version}
use Rattle.giop_frames.specs.Decode.{Decodes, FindsWhatStands, IsRefusedForGood, TellsFault}
use Rattle.giop_frames.proofs.decoding.decode.Goals as goal

pub returns-clause-only : goal.returns-clause-only
returns-clause-only c =
    let Finds : List Version → Type 0 = λ versions. FindsWhatStands versions c.args.bytes.now c.decode_as.result in
    subst Finds c.profile_versions.ensures c.decode_as.ensures.only

pub returns-clause-exact : goal.returns-clause-exact
returns-clause-exact c = subst (λ (versions : List Version). Decodes versions c.args.bytes.now c.decode_as.result) c.profile_versions.ensures c.decode_as.ensures.exact

pub returns-clause-told : goal.returns-clause-told
returns-clause-told c = subst (λ (versions : List Version). TellsFault versions c.args.bytes.now c.decode_as.result) c.profile_versions.ensures c.decode_as.ensures.told

pub returns-clause-stays : goal.returns-clause-stays
returns-clause-stays c = subst (λ (versions : List Version). IfErr c.decode_as.result (IsRefusedForGood versions c.args.bytes.now)) c.profile_versions.ensures c.decode_as.ensures.stays
