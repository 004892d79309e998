use Rattle.nodes_state.proofs.Registered.{kept_names}
use Rattle.nodes_state.proofs.casts.Cast.of_roster.Goals as goal

pub returns : goal.returns
returns c = λ w f is. record {
  key = is.key;
  registered = λ number. kept_names w c.args.roster.now.registered.items f.ballots.registrations number is.indexed.registrations is.registered;
  synchronized = λ number. kept_names w c.args.roster.now.synchronized.items f.ballots.synchronizations number is.indexed.synchronizations is.synchronized;
}
