use Rattle.std.proofs.Common.{false, [], arith}
use Rattle.host.specs.Tables.{lines_of}
use Rattle.host.proofs.Scans.{all-alike}
use Rattle.host.proofs.host.texts.clear_rhosts.Goals as goal

pub returns : goal.returns
returns c = record {
  lines = all-alike lines_of [] 16 _ c.loop-rhosts.invariant.0 (λ i d l. (c.loop-rhosts.invariant.1 i d (omega arith)).0);
  read = all-alike (λ x. x.read) false 16 _ c.loop-rhosts.invariant.0 (λ i d l. (c.loop-rhosts.invariant.1 i d (omega arith)).1);
}
