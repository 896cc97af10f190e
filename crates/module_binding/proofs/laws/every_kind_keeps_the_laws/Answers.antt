use Rattle.module_binding.specs.Kinds.{agreement_of, integrity_of, fulfilment_of, bound_of, never_past_of}
use Rattle.module_binding.proofs.laws.every_kind_keeps_the_laws.Goals as goal

pub returns : goal.returns
returns c = record { agreement = agreement_of; integrity = integrity_of; fulfilment = fulfilment_of; bound = bound_of; never_past = never_past_of }
