use Rattle.group_lines.proofs.Ends.{come_back}
use Rattle.group_lines.proofs.Going.{full_wider}
use Rattle.member_threads.proofs.running.finish_workers.Goals as goal

pub returns-then-wanted-clause-lines : goal.returns-then-wanted-clause-lines
returns-then-wanted-clause-lines g c = λ start old on way. come_back g.L.Line _ _ _ _ _ _ _ way

pub returns-then-wanted-clause-full : goal.returns-then-wanted-clause-full
returns-then-wanted-clause-full g c = λ start old on way full. full_wider (λ _ _. ⊥) _ _ _ _ _ (λ from to f t none_there. absurd none_there) full
