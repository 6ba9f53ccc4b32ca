use Rattle.bd_cursor.specs.SessionView.{hint_of}
use Rattle.bd_cursor.proofs.session.Session.resume.Goals as goal

pub returns-in-Err : goal.returns-in-Err
returns-in-Err c = record {
  steps = record {
    because = c.in-Err.ensures.refused (hint_of c.args.choice);
    stays = c.may_resume.ensures.same;
    dump = c.may_resume.ensures.dump;
  };
}
