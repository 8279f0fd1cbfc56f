use Rattle.trace_words.proofs.Examples.{file_alone, break_behind_file, break_before_file, file_behind_dashes}
use Rattle.trace_words.proofs.Examples.{local_before_file, local_behind_break, local_behind_dashes, no_word, two_files}
use Rattle.trace_words.proofs.Examples.{break_twice, break_without_value, unknown_option, help_flag, local_alone}
use Rattle.trace_words.proofs.Examples.{local_twice, local_with_value}
use Rattle.trace_words.proofs.laws.worked_lines.Goals as goal

pub returns : goal.returns
returns c = record {
  taken = record {
    file_alone = file_alone;
    break_behind_file = break_behind_file;
    break_before_file =
        break_before_file;
    file_behind_dashes = file_behind_dashes;
    local_before_file = local_before_file;
    local_behind_break = local_behind_break;
    local_behind_dashes = local_behind_dashes;
  };
  refused = record {
    no_word = no_word;
    two_files = two_files;
    break_twice = break_twice;
    break_without_value =
        break_without_value;
    unknown_option = unknown_option;
    help_flag = help_flag;
    local_alone = local_alone;
    local_twice = local_twice;
    local_with_value = local_with_value;
  };
}
