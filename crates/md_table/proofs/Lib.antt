mod AnswersLemmas
