use Rattle.share_top.proofs.running.run.Goals as goal

pub returns-in-None-clause-local : goal.returns-in-None-clause-local
returns-in-None-clause-local g c = λ none. record {
  checked = λ name words. record {
    ran = c.local_command-status.ensures.checked name words;
    loaded = (c.local_command-status.ensures.loaded name words).0;
    status_is = (c.local_command-status.ensures.loaded name words).1;
    still = record {
      left = (c.local_command-status.ensures.unmoved name words).0;
      source = (c.local_command-status.ensures.unmoved name words).1;
      chain = (c.local_command-status.ensures.unmoved name words).2;
      cable = (c.local_command-status.ensures.unmoved name words).3;
    };
  };
  piped = λ name number is words. record {
    ran = c.local_command-status.ensures.piped name number is words;
    loaded = (c.local_command-status.ensures.listed name number is words).0;
    status_is = (c.local_command-status.ensures.listed name number is words).1;
    ends = λ setup grant told. c.local_command-status.ensures.well name number setup grant told is words;
  };
  others = λ check pipe. record {
    tells = c.local_command-status.ensures.others check pipe;
    loads = (c.local_command-status.ensures.idle check pipe).0;
    shelf = (c.local_command-status.ensures.idle check pipe).1;
    still = record {
      left = (c.local_command-status.ensures.idle check pipe).2;
      source = (c.local_command-status.ensures.idle check pipe).3;
      chain = (c.local_command-status.ensures.idle check pipe).4;
      cable = (c.local_command-status.ensures.idle check pipe).5;
    };
  };
}
