use Rattle.group_rows.proofs.Refused as refused
use Rattle.group_rows.proofs.refused_events.other_events.Goals as goal

pub returns : goal.returns
returns c = record {
  number = refused.number;
  answer = refused.answer;
  index = refused.index;
  member = refused.member;
  thread = refused.thread;
  nothing_held = refused.nothing_held;
  no_sender = refused.no_sender;
  crashed = refused.crashed;
}
