use Rattle.std.proofs.Common.{arith, sym, true≢false}
use Rattle.worked_examples.proofs.Greatest.{at_them}
use Rattle.worked_examples.specs.Networks.{ask}
use Rattle.std.proofs.Common.{refl}
use Rattle.worked_examples.proofs.network.worked_limits.Goals as goal

pub returns : goal.returns
returns c = record {
  constants = refl;
  other_constants = refl;
  at_them = at_them;
  no_rows = λ h. omega (arith, h.some_rows);
  nine_rows = λ h. omega (arith, h.few_rows);
  no_width = λ h. omega (arith, h.some_width);
  wide = λ h. omega (arith, h.few_width);
  hosts = λ h. omega (arith, h.hosts.few);
  switches = λ h. omega (arith, h.switches.few);
  packets = λ h. omega (arith, h.steps.few_packets);
  other_ask = λ h. let q = h.asks.each 0 (ask 0 0 0) (omega arith) in omega (arith, q.flow);
  no_hops = λ h. omega (arith, h.some_hops);
  many_hops = λ h. omega (arith, h.few_hops);
  other_host = λ h. omega (arith, h.host);
  other_switch = λ h. omega (arith, h.path 15 0 (omega arith));
  few_delays = λ h. omega (arith, h.hops);
  lost_past = λ h. omega (arith, h.reach);
  other_flow = λ h. omega (arith, h.flow);
  no_switch = λ h. omega (arith, h);
  seed = λ h. omega (arith, h);
  pick = λ h. omega (arith, h);
  host_name = λ h. omega (arith, h.name);
  flow_name = λ h. omega (arith, h.name);
  twice_by = λ h. h.once 0 2 0 (omega arith) (omega arith) refl;
  size = λ h. omega (arith, h.size);
  delay = λ h. omega (arith, h.each_delay 0 0 (omega arith));
  burst = λ h. omega (arith, h.some);
  undeclared = λ h. true≢false (sym h.declared);
  epoch = λ h. omega (arith, h.epoch);
  five = λ h. omega (arith, h.four);
  not_a_byte = λ h. omega (arith, h.bytes 3 0 (omega arith));
  port = λ h. omega (arith, h.sport);
  other_port = λ h. omega (arith, h.dport);
  proto = λ h. omega (arith, h.proto);
  sum = λ h. omega (arith, h.bytes);
  maximum = λ h. omega (arith, h.delay);
  switch = λ h. omega (arith, h.switch);
  index = λ h. omega (arith, h.index);
  rows = λ h. omega (arith, h.cells.buckets);
}
