mod PutLaws
