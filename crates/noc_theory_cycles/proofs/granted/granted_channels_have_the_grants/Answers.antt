use Rattle.noc_theory_cycles.proofs.GrantedLemmas.{granted-one, grants-one}
use Rattle.noc_theory_cycles.proofs.granted.granted_channels_have_the_grants.Goals as goal

pub returns : goal.returns
returns c = λ pattern layout sets s a h standing no_credit decided granted lost left headers nodes node still may has.
    record {
      each = grants-one pattern layout sets s a h standing no_credit decided granted lost left headers nodes node still may has;
      all = granted-one pattern layout sets s a h standing no_credit decided granted lost left headers nodes node still may has;
    }
